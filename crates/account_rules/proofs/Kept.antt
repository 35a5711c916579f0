-- What accounts keep that break no rule.
use Rattle.std.proofs.Common.{zero, suc, ◌≡◌, ℕ, Bool, true, false, not, ◌&&◌, ◌||◌, List, [], ◌∷◌, ◌++◌, length, get_or, refl, sym, ap, inl, inr, nat_eq, nat_lt, Option, Some, None, Ok, arith, if◌then◌else◌, All, ◌∙◌}
use Rattle.std.specs.List.{list_any, filter_map, cons_option}
use Rattle.std.specs.Cmp.Lexicographic.{bytes_decides}
use Rattle.std.proofs.lemmas.Bool.{and_cases, and_parts, or_parts, not-false, false_from_ne_true, ltb-false, eqb-true}
use Rattle.std.proofs.lemmas.Bool.Decides.{nat_tests}
use Rattle.std.proofs.lemmas.List.Folds.{list_any_at}
use Rattle.sol_base.specs.declared.key.Key.{Key}
use Rattle.sol_base.specs.declared.account.Account.{Account}
use Rattle.sol_base.specs.Keys.{same_key}
use Rattle.sol_base.specs.Accounts.{lamports_in, max_data_len}
use Rattle.sol_base.proofs.KeyLaws.{same_key-true}
use Rattle.account_rules.specs.declared.rules.RuleFault.{RuleFault}
use Rattle.account_rules.specs.declared.rules.RuleFault.TheVariants.{Unbalanced}
use Rattle.account_rules.specs.AccountRules.{Change, afters, befores, broken_by, broken_rule, broken_rules, changes, first_of, has_byte, owns, rules, same_account, same_data, same_flag, unbalanced, readonly_changed, executable_changed, owner_change, foreign_debit, foreign_data, too_large}
use Rattle.account_rules.specs.KeptAccounts.{AreKept, IsKept}
use Rattle.account_rules.proofs.Changes.{sides-changes}

-- ---- tests
passed : {F : Type 0} (test : Bool) (fault : F) (rest : Option F) → (if test then Some fault else rest) ≡ None → (test ≡ false) × (rest ≡ None)
passed true fault rest none = absurd (cc)
passed false fault rest none = (refl, none)

not_second : (s t : Bool) → (s && t) ≡ false → s ≡ true → t ≡ false
not_second true t none holds = none
not_second false t none holds = absurd (cc)

is_zero : (x : ℕ) → not (nat_eq x 0) ≡ false → x ≡ 0
is_zero x none = grind (arith, nat_tests)

-- ---- accounts
no_byte : (list : List ℕ) → list_any (λ byte. not (nat_eq byte 0)) list ≡ false → All (λ byte. byte ≡ 0) list
no_byte list none k d below = is_zero (get_or list k d)
    (false_from_ne_true (not (nat_eq (get_or list k d) 0))
    (λ here. let found = list_any_at (λ byte. not (nat_eq byte 0)) list k d below here in cc))

flag_is : (s t : Bool) → (if s then t else not t) ≡ true → s ≡ t
flag_is true t same = sym same
flag_is false true same = absurd (cc)
flag_is false false same = refl

account_is : (a b : Account) → same_account a b ≡ true → a ≡ b
account_is a b same =
    let last = and_parts (nat_eq a.lamports b.lamports && same_key a.owner b.owner && same_flag a b) (same_data a b) same in
    let third = and_parts (nat_eq a.lamports b.lamports && same_key a.owner b.owner) (same_flag a b) last.0 in
    let first = and_parts (nat_eq a.lamports b.lamports) (same_key a.owner b.owner) third.0 in
    let lamports : a.lamports ≡ b.lamports = eqb-true a.lamports b.lamports first.0 in
    let owner : a.owner ≡ b.owner = same_key-true a.owner b.owner first.1 in
    let executable : a.executable ≡ b.executable = flag_is a.executable b.executable third.1 in
    let bytes : a.bytes ≡ b.bytes = (bytes_decides a.bytes b.bytes).0 last.1 in
    λ i. record { lamports = lamports i; owner = owner i; executable = executable i; bytes = bytes i }

pub kept : (program : Key) (writable : Bool) (before after : Account) (n : ℕ) → broken_rule program writable before after n ≡ None → IsKept program writable before after
kept program writable before after n none =
    let one = passed (readonly_changed writable before after) _ _ none in
    let two = passed (executable_changed before after) _ _ one.1 in
    let three = passed (owner_change program before after) _ _ two.1 in
    let four = passed (foreign_debit program before after) _ _ three.1 in
    let five = passed (foreign_data program before after) _ _ four.1 in
    let six = passed (too_large after) _ _ five.1 in
    let two' = or_parts (before.executable && not (same_account before after)) (not (same_flag before after)) two.0 in
    record {
      readonly = λ locked. account_is before after (not-false (same_account before after) (not_second (not writable) (not (same_account before after)) one.0 (ap not locked)));
      executable = λ holds. account_is before after (not-false (same_account before after) (not_second before.executable (not (same_account before after)) two'.0 holds));
      flag = flag_is before.executable after.executable (not-false (same_flag before after) two'.1);
      owner = elim (and_cases (not (same_key before.owner after.owner)) (not (owns program before) || has_byte after) three.0) [
        | inl same ↦ inl (same_key-true before.owner after.owner (not-false (same_key before.owner after.owner) same))
        | inr given ↦ let parts = or_parts (not (owns program before)) (has_byte after) given
            in inr (
              same_key-true before.owner program (not-false (owns program before) parts.0),
              no_byte
                  after.bytes parts.1,
            )
      ];
      lamports = elim (and_cases (nat_lt after.lamports before.lamports) (not (owns program before)) four.0) [
        | inl more ↦ inl (ltb-false after.lamports before.lamports more)
        | inr owned ↦ inr (same_key-true before.owner program (not-false (owns program before) owned))
      ];
      bytes = elim (and_cases (not (same_data before after)) (not (owns program before)) five.0) [
        | inl same ↦ inl ((bytes_decides before.bytes after.bytes).0 (not-false (same_data before after) same))
        | inr owned ↦ inr (same_key-true before.owner program (not-false (owns program before) owned))
      ];
      size = ltb-false max_data_len (length after.bytes) six.0;
    }

-- ---- lists
empty_option : {Y : Type 0} (o : Option Y) (ys : List Y) → cons_option o ys ≡ [] → (o ≡ None) × (ys ≡ [])
empty_option None ys none = (refl, none)
empty_option (Some y) ys none = absurd (cc)

empty_both : {X : Type 0} (xs ys : List X) → xs ++ ys ≡ [] → (xs ≡ []) × (ys ≡ [])
empty_both [] ys none = (refl, none)
empty_both (x ∷ xs) ys none = absurd (cc)

pub none_at : {X Y : Type 0} (f : X → Option Y) (xs : List X) → filter_map f xs ≡ [] → All (λ x. f x ≡ None) xs
none_at f [] none k d below = absurd (omega arith)
none_at f (x ∷ xs) none zero d below = (empty_option (f x) (filter_map f xs) none).0
none_at f (x ∷ xs) none (suc k) d below = none_at f xs (empty_option (f x) (filter_map f xs) none).1 k d (omega arith)

no_fault : (faults : List RuleFault) → first_of faults ≡ Ok tt → faults ≡ []
no_fault [] ok = refl
no_fault (fault ∷ faults) ok = absurd (cc)

balanced : (before after : List Account) → (if unbalanced before after then Unbalanced ∷ [] else []) ≡ [] → lamports_in before ≡ lamports_in after
balanced before after none = eqb-true (lamports_in before) (lamports_in after) (not-false (nat_eq (lamports_in before) (lamports_in after)) (no_item (unbalanced before after) none))
  where
    no_item : (t : Bool) → (if t then Unbalanced ∷ [] else []) ≡ [] → t ≡ false
    no_item true none = absurd (cc)
    no_item false none = refl

-- what broken rules there are not
pub none_broken : (program : Key) (changes : List Change) → first_of (broken_rules program changes) ≡ Ok tt
    → (filter_map (broken_by program) changes ≡ [])
    × (lamports_in (befores changes) ≡ lamports_in (afters changes))
none_broken program changes ok =
    let parts = empty_both (filter_map (broken_by program) changes) (if unbalanced (befores changes) (afters changes) then Unbalanced ∷ [] else []) (no_fault (broken_rules program changes) ok) in
    (parts.0, balanced (befores changes) (afters changes) parts.1)

pub all_kept : (program : Key) (writable : List Bool) (before after : List Account)
    → length writable ≡ length before → length after ≡ length before
    → rules program writable before after ≡ Ok tt → AreKept program writable before after
unfolding rules
all_kept program writable before after flags count ok =
    let parts = none_broken program (changes writable before after) ok in
    let sides = sides-changes 0 writable before after flags count in
    record {
      each = λ k d below. kept program _ _ _ _ (none_at (broken_by program) (changes writable before after) parts.0 k d below);
      sum = ap lamports_in (sym sides.0) ∙ parts.1 ∙ ap lamports_in sides.1;
    }
