-- What accounts keep of which only some may be written: it holds where nothing is written, it goes on, and more rights leave it so.
use Rattle.std.proofs.Common.{◌≡◌, ℕ, zero, suc, ◌+◌, ◌<◌, ◌≤◌, Bool, true, false, ◌||◌, List, [], ◌∷◌, length, take, get_or, nat_eq, refl, sym, ap, ◌∙◌, subst, inl, inr, Some, None, Ok, arith, add-one, slice_get}
use Rattle.std.specs.List.{filter_map}
use Rattle.std.proofs.lemmas.Bool.{cases_lt}
use Rattle.std.proofs.lemmas.Bool.Decides.{nat_tests}
use Rattle.std.proofs.lemmas.List.{take_all}
use Rattle.std.proofs.lemmas.Option.{get_or_from_slice_get, same_Some, slice_get-get_or, slice_get_past}
use Rattle.sol_base.specs.declared.key.Key.{Key}
use Rattle.sol_base.specs.declared.account.Account.{Account}
use Rattle.sol_base.specs.declared.lock.Meta.{Meta}
use Rattle.sol_base.specs.Accounts.{AreShort, IsShort, empty_account, lamports_in}
use Rattle.sol_base.specs.Metas.{AreInRange, SameUnlessListed, is_listed, is_listed_writable, no_meta}
use Rattle.account_rules.specs.AccountRules.{afters, befores, broken_by, listed_changes, listed_rules}
use Rattle.account_rules.specs.KeptAccounts.{AreKeptBy, AreForeignKept, IsKept, IsForeignKept}
use Rattle.account_rules.proofs.Flags.{listed_more}
use Rattle.account_rules.proofs.Kept.{kept, none_at, none_broken}
use Rattle.account_rules.proofs.Foreign.{IsForeignKept-kept, IsForeignKept-same}
use Rattle.account_rules.proofs.Listings.{at_first, fault_of, faults_of, length-listings, listing_at, listings}
use Rattle.account_rules.proofs.Sums.{one_sum}

pub AreKeptBy-refl : (may_write : ℕ → Bool) (accounts : List Account) → AreKeptBy may_write accounts accounts
AreKeptBy-refl may_write accounts = record {
  count = refl;
  lamports = refl;
  readonly = λ place locked. refl;
  programs = λ place account here holds. here;
  no_new = λ place account here holds. here;
  short = λ short. short;
}

pub AreKeptBy-trans : (may_write : ℕ → Bool) (first second third : List Account) → AreKeptBy may_write first second → AreKeptBy may_write second third → AreKeptBy may_write first third
AreKeptBy-trans may_write first second third one two = record {
  count = two.count ∙ one.count;
  lamports = two.lamports ∙ one.lamports;
  readonly = λ place locked. two.readonly place locked ∙ one.readonly place locked;
  programs = λ place account here holds. two.programs place account (one.programs place account here holds) holds;
  no_new = λ place account here holds. one.no_new place account (two.no_new place account here holds) holds;
  short = λ short. two.short (one.short short);
}

-- more may be written
pub AreKeptBy-weaker : (fewer more : ℕ → Bool) (before after : List Account) → ((place : ℕ) → more place ≡ false → fewer place ≡ false) → AreKeptBy fewer before after → AreKeptBy more before after
AreKeptBy-weaker fewer more before after rights are = record {
  count = are.count;
  lamports = are.lamports;
  readonly = λ place locked. are.readonly place (rights place locked);
  programs = are.programs;
  no_new = are.no_new;
  short = are.short;
}

-- ---- accounts of a frame that break no rule
module _ (program : Key) (metas : List Meta) (before after : List Account)
    (count : length after ≡ length before) (range : AreInRange (length before) metas)
    (same : SameUnlessListed metas before after) (unbroken : listed_rules program metas before after ≡ Ok tt)
  where
    IsKeptAt : ℕ → Type 0
    IsKeptAt place = IsKept program (is_listed_writable metas place) (get_or before place empty_account) (get_or after place empty_account)

    parts : (filter_map (broken_by program) (listed_changes metas before after) ≡ [])
        × (lamports_in (befores (listed_changes metas before after))
        ≡ lamports_in (afters (listed_changes metas before after)))
    unfolding listed_rules
    parts = none_broken program (listed_changes metas before after) unbroken

    no_fault : (n : ℕ) → n < length metas → fault_of program metas before after (n, get_or metas n no_meta) ≡ None
    no_fault n below =
        let within : n < length (listings metas) = omega (arith, length-listings metas) in
        ap (fault_of program metas before after) (sym (listing_at metas n no_meta below))
        ∙ none_at (fault_of program metas before after) (listings metas)
        (sym (faults_of program metas before after) ∙ parts.0) n (n, no_meta) within

    -- an account that the first n metas list is kept, so one that one more lists is
    kept_more : (n place : ℕ) → n < length metas → (is_listed (take n metas) place ≡ true → IsKeptAt place) → is_listed (take (n + 1) metas) place ≡ true → IsKeptAt place
    unfolding IsKeptAt
    kept_more n place below before_it listed = by_test (is_listed (take n metas) place) refl
      where
        by_test : (t : Bool) → is_listed (take n metas) place ≡ t → IsKept program (is_listed_writable metas place) (get_or before place empty_account) (get_or after place empty_account)
        by_test true earlier = before_it earlier
        by_test false first =
            let test : nat_eq (get_or metas n no_meta).index place
            ≡ true = ap (λ t. t || nat_eq (get_or metas n no_meta).index place) (sym first)
            ∙ sym (listed_more metas n no_meta place below) ∙ listed in
            let here : (get_or metas n no_meta).index ≡ place = grind (arith, nat_tests) in
            let new : is_listed (take n metas) (get_or metas n no_meta).index ≡ false = ap (is_listed (take n metas)) here ∙ first in
            let none = sym (at_first program metas before after n (get_or metas n no_meta) new) ∙ no_fault n below in
            let P : ℕ → Type 0 = λ p. IsKept program (is_listed_writable metas p) (get_or before p empty_account) (get_or after p empty_account) in
            subst P here (kept program (is_listed_writable metas (get_or metas n no_meta).index)
            (get_or before (get_or metas n no_meta).index empty_account)
            (get_or after (get_or metas n no_meta).index empty_account) n none)

    kept_by : (n place : ℕ) → n ≤ length metas → is_listed (take n metas) place ≡ true → IsKeptAt place
    kept_by zero place within listed = absurd (cc)
    kept_by (suc n) place within listed = kept_more n place (omega arith) (kept_by n place (omega arith)) (rw add-one listed)

    kept_at : (place : ℕ) → is_listed metas place ≡ true → IsKept program (is_listed_writable metas place) (get_or before place empty_account) (get_or after place empty_account)
    unfolding IsKeptAt
    kept_at place listed = kept_by (length metas) place (omega arith) (ap (λ (ms : List Meta). is_listed ms place) (take_all (length metas) metas (omega arith)) ∙ listed)

    -- two values at a place that are one
    same_there : (place : ℕ) → get_or before place empty_account ≡ get_or after place empty_account → slice_get after place ≡ slice_get before place
    same_there place one = elim (cases_lt place (length before)) [
      | inl below ↦ slice_get-get_or after place empty_account (omega arith) ∙ ap Some (sym one) ∙ sym (slice_get-get_or before place empty_account below)
      | inr past ↦ slice_get_past after place (omega arith) ∙ sym (slice_get_past before place past)
    ]

    stays_readonly : (place : ℕ) → is_listed_writable metas place ≡ false → slice_get after place ≡ slice_get before place
    stays_readonly place locked = by_test (is_listed metas place) refl
      where
        by_test : (t : Bool) → is_listed metas place ≡ t → slice_get after place ≡ slice_get before place
        by_test true listed = same_there place ((kept_at place listed).readonly locked)
        by_test false other = same place other

    stays_program : (place : ℕ) (account : Account) → slice_get before place ≡ Some account → account.executable ≡ true → slice_get after place ≡ Some account
    stays_program place account here holds = by_test (is_listed metas place) refl
      where
        by_test : (t : Bool) → is_listed metas place ≡ t → slice_get after place ≡ Some account
        by_test true listed = same_there place ((kept_at place listed).executable (ap (λ (a : Account). a.executable) (get_or_from_slice_get before place account empty_account here) ∙ holds)) ∙ here
        by_test false other = same place other ∙ here

    was_program : (place : ℕ) (account : Account) → slice_get after place ≡ Some account → account.executable ≡ true → slice_get before place ≡ Some account
    was_program place account here holds = by_test (is_listed metas place) refl
      where
        by_test : (t : Bool) → is_listed metas place ≡ t → slice_get before place ≡ Some account
        by_test true listed =
            let flag : (get_or before place empty_account).executable ≡ true = (kept_at place listed).flag
            ∙ ap (λ (a : Account). a.executable)
            (get_or_from_slice_get after place account empty_account here) ∙ holds in
            sym (same_there place ((kept_at place listed).executable flag)) ∙ here
        by_test false other = sym (same place other) ∙ here

    stay_short : AreShort before → AreShort after
    stay_short short place d below = by_test (is_listed metas place) refl
      where
        there : slice_get after place ≡ Some (get_or after place empty_account)
        there = slice_get-get_or after place empty_account below

        by_test : (t : Bool) → is_listed metas place ≡ t → IsShort (get_or after place d)
        by_test true listed = subst (λ (a : Account). IsShort a) (sym (get_or_from_slice_get after place (get_or after place empty_account) d there)) (kept_at place listed).size
        by_test false other = subst (λ (a : Account). IsShort a)
            (sym (same_Some (get_or after place d) (get_or before place d)
            (sym (slice_get-get_or after place d below) ∙ same place other
            ∙ slice_get-get_or before place d (omega arith)))) (short place d (omega arith))

    -- they keep what a frame keeps
    pub AreKeptBy-listed_rules : AreKeptBy (is_listed_writable metas) before after
    AreKeptBy-listed_rules =
        let sums = one_sum metas before after count range same in
        record {
          count = count;
          lamports = omega (arith, parts.1, sums.1.0, sums.1.1);
          readonly = stays_readonly;
          programs = stays_program;
          no_new = was_program;
          short = stay_short;
        }

    -- and those that the program does not own
    pub AreForeignKept-listed_rules : AreForeignKept (program ∷ []) before after
    AreForeignKept-listed_rules place was is there here foreign = by_test (is_listed metas place) refl
      where
        was_at : get_or before place empty_account ≡ was
        was_at = get_or_from_slice_get before place was empty_account there

        is_at : get_or after place empty_account ≡ is
        is_at = get_or_from_slice_get after place is empty_account here

        by_test : (t : Bool) → is_listed metas place ≡ t → IsForeignKept was is
        by_test true listed =
            let one : IsKept program (is_listed_writable metas place) was (get_or after place empty_account) =
            subst (λ (a : Account). IsKept program (is_listed_writable metas place) a
            (get_or after place empty_account)) was_at (kept_at place listed) in
            let two : IsKept program (is_listed_writable metas place) was is = subst (IsKept program (is_listed_writable metas place) was) is_at one in
            IsForeignKept-kept program (is_listed_writable metas place) was is two foreign
        by_test false other = IsForeignKept-same was is (same_Some was is (sym there ∙ sym (same place other) ∙ here))
