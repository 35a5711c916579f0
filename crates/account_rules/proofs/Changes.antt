-- The broken rules of accounts, one after the other.
use Rattle.std.proofs.Common.{◌≡◌, ◌≢◌, not, nat_eq, ℕ, ◌+◌, ◌<◌, Bool, true, false, List, [], ◌∷◌, ◌++◌, length, take, get_or, refl, sym, ap, ◌∙◌, Some, None, Result, Ok, Err, arith, if◌then◌else◌, zero-add}
use Rattle.std.proofs.Math.Seq.{take-length}
use Rattle.std.proofs.Math.ListN.{get_or-map}
use Rattle.std.specs.List.{enumerate_from, filter_map, zip}
use Rattle.std.proofs.lemmas.Bool.Decides.{nat_tests}
use Rattle.std.proofs.lemmas.List.FromFn.{get_or-enumerate_from, length-enumerate_from}
use Rattle.std.proofs.lemmas.Slice.Zip.{length-zip, get_or-zip}
use Rattle.std.specs.Arc.{arc_value}
use Rattle.std.specs.declared.sync.Arc.{Arc}
use Rattle.std.specs.declared.alloc.Global.{Global}
use Rattle.spec_base.proofs.Filters.{nothing_more, first_found}
use Rattle.sol_base.specs.declared.key.Key.{Key}
use Rattle.sol_base.specs.declared.account.Account.{Account}
use Rattle.sol_base.specs.Accounts.{accounts_of, lamports_in}
use Rattle.account_rules.specs.declared.rules.RuleFault.{RuleFault}
use Rattle.account_rules.specs.declared.rules.RuleFault.TheVariants.{Unbalanced}
use Rattle.account_rules.specs.AccountRules.{afters, befores, broken_rule, broken_by, changes, first_of, rules, unbalanced}

-- none of the first n accounts breaks a rule
abbrev pub NoneBroken : Key → List Bool → List Account → List Account → ℕ → Type 0
NoneBroken program writable before after n = filter_map (broken_by program) (take n (changes writable before after)) ≡ []

abbrev last_of : Bool → Result (Unit {0}) RuleFault
last_of u = first_of (if u then Unbalanced ∷ [] else [])

differ_is : (x y : ℕ) → x ≢ y → not (nat_eq x y) ≡ true
differ_is x y differ = grind (arith, nat_tests)

same_is : (x y : ℕ) → x ≡ y → not (nat_eq x y) ≡ false
same_is x y same = grind (arith, nat_tests)

-- the accounts before and after are those of the lists
pub sides-changes : (n : ℕ) (writable : List Bool) (before after : List Account)
    → length writable ≡ length before → length after ≡ length before
    → (befores (enumerate_from n (zip writable (zip before after))) ≡ before)
    × (afters (enumerate_from n (zip writable (zip before after))) ≡ after)
sides-changes n [] [] [] flags count = (refl, refl)
sides-changes n [] [] (a ∷ after) flags count = absurd (omega arith)
sides-changes n [] (b ∷ before) after flags count = absurd (omega arith)
sides-changes n (w ∷ writable) [] after flags count = absurd (omega arith)
sides-changes n (w ∷ writable) (b ∷ before) [] flags count = absurd (omega arith)
sides-changes n (w ∷ writable) (b ∷ before) (a ∷ after) flags count =
    let rest = sides-changes (n + 1) writable before after (omega arith) (omega arith) in
    (ap (λ accounts. b ∷ accounts) rest.0, ap (λ accounts. a ∷ accounts) rest.1)

-- so the sums are those of the lists
unbalanced-changes : (writable : List Bool) (before after : List Account) → length writable ≡ length before
    → length after ≡ length before
    → unbalanced (befores (changes writable before after)) (afters (changes writable before after))
    ≡ unbalanced before after
unbalanced-changes writable before after flags count =
    let sides = sides-changes 0 writable before after flags count in
    ap (λ accounts. unbalanced accounts (afters (changes writable before after))) sides.0 ∙ ap (unbalanced before) sides.1

-- ---- the accounts
module _ (program : Key) (writable : List Bool) (before after : List (Arc Account Global))
    (same_flags : length writable ≡ length (accounts_of before))
    (same_accounts : length (accounts_of after) ≡ length (accounts_of before)) where
  length-all : length (changes writable (accounts_of before) (accounts_of after)) ≡ length writable
  length-all = length-enumerate_from 0 (zip writable (zip (accounts_of before) (accounts_of after)))
      ∙ omega (
        arith,
        length-zip writable (zip (accounts_of before) (accounts_of after)),
        length-zip
            (accounts_of before) (accounts_of after),
      )

  -- what the account at a place breaks
  broken_at : (n : ℕ) (b a : Arc Account Global) → n < length writable → b ≡ get_or before n b
      → a ≡ get_or after n a → broken_by program
      (get_or (changes writable (accounts_of before) (accounts_of after)) n
      (n, (false, (arc_value b, arc_value a))))
      ≡ broken_rule program (get_or writable n false) (arc_value b) (arc_value a) n
  broken_at n b a below is_before is_after =
      let value : Arc Account Global → Account = λ share. arc_value share in
      let before_is : get_or (accounts_of before) n (arc_value b) ≡ arc_value b = get_or-map value before n b ∙ ap value (sym is_before) in
      let after_is : get_or (accounts_of after) n (arc_value a) ≡ arc_value a = get_or-map value after n a ∙ ap value (sym is_after) in
      let long : length (zip (accounts_of before) (accounts_of after)) ≡ length writable = omega (arith, length-zip (accounts_of before) (accounts_of after)) in
      let long_all : length (zip writable (zip (accounts_of before) (accounts_of after))) ≡ length writable = omega (arith, length-zip writable (zip (accounts_of before) (accounts_of after))) in
      let pair : get_or (zip (accounts_of before) (accounts_of after)) n (arc_value b, arc_value a)
      ≡ (arc_value b, arc_value a) = get_or-zip (accounts_of before) (accounts_of after) n
      (arc_value b, arc_value a) (omega arith) (omega arith) ∙ (λ i. (before_is i, after_is i)) in
      let entry : get_or (zip writable (zip (accounts_of before) (accounts_of after))) n
      (false, (arc_value b, arc_value a))
      ≡ (get_or writable n false, (arc_value b, arc_value a)) = get_or-zip writable
      (zip (accounts_of before) (accounts_of after)) n (false, (arc_value b, arc_value a)) below
      (omega arith) ∙ (λ i. (get_or writable n false, pair i)) in
      ap (broken_by program) (get_or-enumerate_from 0
      (zip writable (zip (accounts_of before) (accounts_of after))) n
      (n, (false, (arc_value b, arc_value a))) (omega arith) ∙ (λ i. (zero-add n i, entry i)))

  pub goes_on : (n : ℕ) (b a : Arc Account Global) → n < length writable → b ≡ get_or before n b
      → a ≡ get_or after n a → NoneBroken program writable (accounts_of before) (accounts_of after) n
      → broken_rule program (get_or writable n false) (arc_value b) (arc_value a) n ≡ None
      → NoneBroken program writable (accounts_of before) (accounts_of after) (n + 1)
  goes_on n b a below is_before is_after none here = nothing_more (broken_by program)
      (changes writable (accounts_of before) (accounts_of after)) n (n, (false, (arc_value b, arc_value a)))
      (rw length-all below) none (broken_at n b a below is_before is_after ∙ here)

  pub stops : (n : ℕ) (b a : Arc Account Global) (fault : RuleFault) → n < length writable
      → b ≡ get_or before n b → a ≡ get_or after n a
      → NoneBroken program writable (accounts_of before) (accounts_of after) n
      → broken_rule program (get_or writable n false) (arc_value b) (arc_value a) n ≡ Some fault
      → rules program writable (accounts_of before) (accounts_of after) ≡ Err fault
  unfolding rules
  stops n b a fault below is_before is_after none here = rw
      (first_found (broken_by program) (changes writable (accounts_of before) (accounts_of after)) n
      (n, (false, (arc_value b, arc_value a))) fault (rw length-all below) none
      (broken_at n b a below is_before is_after ∙ here)) refl

  ends : (n : ℕ) → n ≡ length writable → NoneBroken program writable (accounts_of before) (accounts_of after) n
      → rules program writable (accounts_of before) (accounts_of after)
      ≡ last_of (unbalanced (accounts_of before) (accounts_of after))
  unfolding rules
  ends n over none =
      let whole : filter_map (broken_by program) (changes writable (accounts_of before) (accounts_of after))
      ≡ [] = ap (filter_map (broken_by program))
      (sym (take-length (changes writable (accounts_of before) (accounts_of after)))
      ∙ ap (λ m. take m (changes writable (accounts_of before) (accounts_of after)))
      (length-all ∙ sym over)) ∙ none in
      ap (λ faults. first_of (faults
      ++ (if unbalanced (befores (changes writable (accounts_of before) (accounts_of after)))
      (afters (changes writable (accounts_of before) (accounts_of after))) then Unbalanced ∷ [] else [])))
      whole ∙ ap last_of (unbalanced-changes writable (accounts_of before) (accounts_of after) same_flags
      same_accounts)

  pub ends_unbalanced : (n : ℕ) → n ≡ length writable
      → NoneBroken program writable (accounts_of before) (accounts_of after) n
      → lamports_in (accounts_of before) ≢ lamports_in (accounts_of after)
      → rules program writable (accounts_of before) (accounts_of after) ≡ Err Unbalanced
  ends_unbalanced n over none differ = ends n over none ∙ ap last_of (differ_is _ _ differ)

  pub ends_balanced : (n : ℕ) → n ≡ length writable
      → NoneBroken program writable (accounts_of before) (accounts_of after) n
      → lamports_in (accounts_of before) ≡ lamports_in (accounts_of after)
      → rules program writable (accounts_of before) (accounts_of after) ≡ Ok tt
  ends_balanced n over none same = ends n over none ∙ ap last_of (same_is _ _ same)
