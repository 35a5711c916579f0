-- The lamports of a frame's accounts, which are each counted once, beside those of all accounts.
use Rattle.std.proofs.Common.{◌≡◌, ◌≢◌, ℕ, zero, suc, ◌+◌, ◌<◌, ◌≤◌, Bool, true, false, not, List, [], ◌∷◌, ◌++◌, length, map, take, get_or, nat_eq, refl, sym, ap, ◌∙◌, arith, if◌then◌else◌, Some, None, Ok, Err, add-one, add-zero, zero-add, slice_get}
use Rattle.std.specs.List.{filter, sum_by}
use Rattle.std.proofs.lemmas.Bool.Decides.{nat_tests}
use Rattle.std.proofs.lemmas.List.{take_all}
use Rattle.std.proofs.lemmas.List.Elements.{filter_more}
use Rattle.std.proofs.lemmas.List.Sums.{sum_by-append, sum_by-cons}
use Rattle.std.proofs.lemmas.Option.{same_Some}
use Rattle.sol_base.specs.declared.key.Key.{Key}
use Rattle.sol_base.specs.declared.account.Account.{Account}
use Rattle.sol_base.specs.declared.lock.Meta.{Meta}
use Rattle.sol_base.specs.Accounts.{empty_account, lamports_in}
use Rattle.sol_base.specs.Metas.{AreInRange, SameUnlessListed, first_listings, is_first_listing, is_listed, no_meta}
use Rattle.account_rules.specs.declared.rules.RuleFault.{RuleFault}
use Rattle.account_rules.specs.declared.rules.RuleFault.TheVariants.{Unbalanced}
use Rattle.account_rules.specs.AccountRules.{Change, afters, befores, first_of, listed_change, listed_changes, listed_faults, listed_rules, unbalanced}
use Rattle.account_rules.proofs.Flags.{listed_again, listed_else, listed_here}
use Rattle.account_rules.proofs.Listings.{length-listings, listing_at, listings}

-- the lamports of the accounts at places that a test does not name
rest : (ℕ → Bool) → List Account → ℕ
rest named [] = 0
rest named (account ∷ accounts) = (if named 0 then 0 else account.lamports) + rest (λ place. named (suc place)) accounts

rest-same : (p q : ℕ → Bool) (accounts : List Account) → ((place : ℕ) → p place ≡ q place) → rest p accounts ≡ rest q accounts
rest-same p q accounts same = λ i. rest (λ place. same place i) accounts

rest-none : (accounts : List Account) → rest (λ place. false) accounts ≡ lamports_in accounts
unfolding rest
rest-none [] = refl
rest-none (account ∷ accounts) = ap (λ n. account.lamports + n) (rest-none accounts) ∙ sym (sum_by-cons (λ (one : Account). one.lamports) account accounts)

-- one place more is named
rest-one : (p q : ℕ → Bool) (at : ℕ) (accounts : List Account) (d : Account) → at < length accounts
    → p at ≡ false → q at ≡ true → ((place : ℕ) → place ≢ at → q place ≡ p place)
    → rest p accounts ≡ (get_or accounts at d).lamports + rest q accounts
unfolding rest
rest-one p q at [] d below was now others = absurd (omega arith)
rest-one p q zero (account ∷ accounts) d below was now others =
    let tails : rest (λ place. p (suc place)) accounts
    ≡ rest (λ place. q (suc place)) accounts = rest-same (λ place. p (suc place)) (λ place. q (suc place))
    accounts (λ place. sym (others (suc place) (omega arith))) in
    let first : (if p 0 then 0 else account.lamports) ≡ account.lamports = ap (λ t. if t then 0 else account.lamports) was in
    let second : (if q 0 then 0 else account.lamports) ≡ 0 = ap (λ t. if t then 0 else account.lamports) now in
    omega arith
rest-one p q (suc at) (account ∷ accounts) d below was now others =
    let tails : rest (λ place. p (suc place)) accounts
    ≡ (get_or accounts at d).lamports + rest (λ place. q (suc place)) accounts = rest-one
    (λ place. p (suc place)) (λ place. q (suc place)) at accounts d (omega arith) was now
    (λ place differ. others (suc place) (omega arith)) in
    let heads : (if q 0 then 0 else account.lamports) ≡ (if p 0 then 0 else account.lamports) = ap (λ t. if t then 0 else account.lamports) (others 0 (omega arith)) in
    omega arith

-- accounts that are the same at the other places
rest-kept : (p : ℕ → Bool) (before after : List Account) → length after ≡ length before
    → ((place : ℕ) → p place ≡ false → slice_get after place ≡ slice_get before place)
    → rest p after ≡ rest p before
unfolding rest
rest-kept p [] [] count same = refl
rest-kept p [] (a ∷ after) count same = absurd (omega arith)
rest-kept p (b ∷ before) [] count same = absurd (omega arith)
rest-kept p (b ∷ before) (a ∷ after) count same =
    let tails : rest (λ place. p (suc place)) after ≡ rest (λ place. p (suc place)) before = rest-kept (λ place. p (suc place)) before after (omega arith) (λ place. same (suc place)) in
    let heads : (if p 0 then 0 else a.lamports) ≡ (if p 0 then 0 else b.lamports) = by_test (p 0) (same 0) in
    omega arith
  where
    by_test : (t : Bool) → (t ≡ false → slice_get (a ∷ after) 0 ≡ slice_get (b ∷ before) 0) → (if t then 0 else a.lamports) ≡ (if t then 0 else b.lamports)
    by_test true here = refl
    by_test false here = let one = here refl in cc

-- ---- meta by meta
abbrev lamports_at : List Account → ℕ × Meta → ℕ
lamports_at accounts (at, meta) = (get_or accounts meta.index empty_account).lamports

-- the lamports of the accounts that the first n metas list
abbrev listed_in : List Meta → List Account → ℕ → ℕ
listed_in metas accounts n = sum_by (lamports_at accounts) (filter (is_first_listing metas) (take n (listings metas)))

-- a meta, if it is the first of its account
abbrev picked : List Meta → ℕ × Meta → List (ℕ × Meta)
picked metas listing = if is_first_listing metas listing then listing ∷ [] else []

listed_in-more : (metas : List Meta) (accounts : List Account) (n : ℕ) → n < length metas
    → listed_in metas accounts (n + 1)
    ≡ listed_in metas accounts n + sum_by (lamports_at accounts) (picked metas (n, get_or metas n no_meta))
listed_in-more metas accounts n below =
    let within : n < length (listings metas) = omega (arith, length-listings metas) in
    let split = filter_more (is_first_listing metas) (listings metas) n (n, no_meta) within in
    let entry : get_or (listings metas) n (n, no_meta) ≡ (n, get_or metas n no_meta) = listing_at metas n no_meta below in
    ap (sum_by (lamports_at accounts))
    (split ∙ ap (λ (l : ℕ × Meta). filter (is_first_listing metas) (take n (listings metas))
    ++ picked metas l) entry) ∙ sum_by-append (lamports_at accounts)
    (filter (is_first_listing metas) (take n (listings metas))) (picked metas (n, get_or metas n no_meta))

-- they are parted from the lamports of the others
parted_more : (metas : List Meta) (accounts : List Account) (n : ℕ) → n < length metas
    → AreInRange (length accounts) metas
    → listed_in metas accounts n + rest (is_listed (take n metas)) accounts ≡ lamports_in accounts
    → listed_in metas accounts (n + 1) + rest (is_listed (take (n + 1) metas)) accounts ≡ lamports_in accounts
parted_more metas accounts n below range so_far = by_test (is_listed (take n metas) (get_or metas n no_meta).index) refl
  where
    one_more : listed_in metas accounts (n + 1) ≡ listed_in metas accounts n + sum_by (lamports_at accounts) (picked metas (n, get_or metas n no_meta))
    one_more = listed_in-more metas accounts n below

    by_test : (t : Bool) → is_listed (take n metas) (get_or metas n no_meta).index ≡ t → listed_in metas accounts (n + 1) + rest (is_listed (take (n + 1) metas)) accounts ≡ lamports_in accounts
    by_test true again =
        let none : sum_by (lamports_at accounts) (picked metas (n, get_or metas n no_meta))
        ≡ 0 = ap (λ (t : Bool). sum_by (lamports_at accounts)
        (if not t then (n, get_or metas n no_meta) ∷ [] else [])) again in
        let same : rest (is_listed (take (n + 1) metas)) accounts
        ≡ rest (is_listed (take n metas)) accounts = rest-same (is_listed (take (n + 1) metas))
        (is_listed (take n metas)) accounts (λ place. listed_again metas n no_meta place below again) in
        omega (arith, one_more, so_far)
    by_test false first =
        let one : sum_by (lamports_at accounts) (picked metas (n, get_or metas n no_meta))
        ≡ (get_or accounts (get_or metas n no_meta).index empty_account).lamports = ap
        (λ (t : Bool). sum_by (lamports_at accounts)
        (if not t then (n, get_or metas n no_meta) ∷ [] else [])) first
        ∙ sum_by-cons (lamports_at accounts) (n, get_or metas n no_meta) []
        ∙ add-zero ((get_or accounts (get_or metas n no_meta).index empty_account).lamports) in
        let less : rest (is_listed (take n metas)) accounts
        ≡ (get_or accounts (get_or metas n no_meta).index empty_account).lamports + rest
        (is_listed (take (n + 1) metas)) accounts = rest-one (is_listed (take n metas))
        (is_listed (take (n + 1) metas)) (get_or metas n no_meta).index accounts empty_account
        (range n no_meta below) first (listed_here metas n no_meta below)
        (λ place differ. listed_else metas n no_meta place below differ) in
        omega (arith, one_more, so_far)

parted : (metas : List Meta) (accounts : List Account) (n : ℕ) → n ≤ length metas
    → AreInRange (length accounts) metas
    → listed_in metas accounts n + rest (is_listed (take n metas)) accounts ≡ lamports_in accounts
parted metas accounts zero within range = zero-add (rest (λ place. false) accounts) ∙ rest-none accounts
parted metas accounts (suc n) within range = rw (← add-one n) (parted_more metas accounts n (omega arith) range (parted metas accounts n (omega arith) range))

-- ---- the sums of a frame
sum_by-map : {X Y : Type 0} (f : Y → ℕ) (g : X → Y) (xs : List X) → sum_by f (map g xs) ≡ sum_by (λ x. f (g x)) xs
sum_by-map f g [] = refl
sum_by-map f g (x ∷ xs) = sum_by-cons f (g x) (map g xs) ∙ ap (λ n. f (g x) + n) (sum_by-map f g xs) ∙ sym (sum_by-cons (λ y. f (g y)) x xs)

module _ (metas : List Meta) (before after : List Account) (count : length after ≡ length before) (range : AreInRange (length before) metas) (same : SameUnlessListed metas before after) where
  all_listings : take (length metas) (listings metas) ≡ listings metas
  all_listings = take_all (length metas) (listings metas) (omega (arith, length-listings metas))

  all_metas : take (length metas) metas ≡ metas
  all_metas = take_all (length metas) metas (omega arith)

  befores_sum : lamports_in (befores (listed_changes metas before after)) ≡ listed_in metas before (length metas)
  befores_sum =
      sum_by-map (λ (account : Account). account.lamports) (λ (change : Change). change.1.1.0) (listed_changes metas before after)
      ∙ sum_by-map (λ (change : Change). change.1.1.0.lamports) (listed_change metas before after) (first_listings metas)
      ∙ ap (λ (ls : List (ℕ × Meta)). sum_by (lamports_at before) (filter (is_first_listing metas) ls)) (sym all_listings)

  afters_sum : lamports_in (afters (listed_changes metas before after)) ≡ listed_in metas after (length metas)
  afters_sum =
      sum_by-map (λ (account : Account). account.lamports) (λ (change : Change). change.1.1.1) (listed_changes metas before after)
      ∙ sum_by-map (λ (change : Change). change.1.1.1.lamports) (listed_change metas before after) (first_listings metas)
      ∙ ap (λ (ls : List (ℕ × Meta)). sum_by (lamports_at after) (filter (is_first_listing metas) ls)) (sym all_listings)

  -- the listed accounts have one sum before and after, exactly where all have
  pub one_sum : (others : ℕ) ×
      ((lamports_in (befores (listed_changes metas before after)) + others ≡ lamports_in before)
      × (lamports_in (afters (listed_changes metas before after)) + others ≡ lamports_in after))
  one_sum =
      let others : ℕ = rest (is_listed metas) before in
      let before_is : listed_in metas before (length metas) + rest (is_listed metas) before
      ≡ lamports_in before = ap (λ (ms : List Meta). listed_in metas before (length metas) + rest
      (is_listed ms) before) (sym all_metas) ∙ parted metas before (length metas) (omega arith) range in
      let after_is : listed_in metas after (length metas) + rest (is_listed metas) after
      ≡ lamports_in after = ap (λ (ms : List Meta). listed_in metas after (length metas) + rest
      (is_listed ms) after) (sym all_metas)
      ∙ parted metas after (length metas) (omega arith) (rw count range) in
      let kept : rest (is_listed metas) after ≡ rest (is_listed metas) before = rest-kept (is_listed metas) before after count same in
      (rest (is_listed metas) before, (omega (arith, befores_sum), omega (arith, afters_sum)))

  pub same_balance : unbalanced (befores (listed_changes metas before after)) (afters (listed_changes metas before after)) ≡ unbalanced before after
  same_balance = ap not (same_test _ _ _ _ one_sum.0 one_sum.1.0 one_sum.1.1)
    where
      same_test : (a b c d others : ℕ) → a + others ≡ c → b + others ≡ d → nat_eq a b ≡ nat_eq c d
      same_test a b c d others first second = grind (arith, nat_tests)

-- ---- the rules of a frame, from what single accounts break and from the sums
stops_at_first : (faults more : List RuleFault) (fault : RuleFault) → slice_get faults 0 ≡ Some fault → first_of (faults ++ more) ≡ Err fault
stops_at_first [] more fault is = absurd (cc)
stops_at_first (first ∷ faults) more fault is = ap Err (same_Some first fault is)

goes_past : (faults more : List RuleFault) → slice_get faults 0 ≡ None → first_of (faults ++ more) ≡ first_of more
goes_past [] more is = refl
goes_past (first ∷ faults) more is = absurd (cc)

pub rules_stop : (program : Key) (metas : List Meta) (before after : List Account) (fault : RuleFault)
    → slice_get (listed_faults program metas before after) 0 ≡ Some fault
    → listed_rules program metas before after ≡ Err fault
unfolding listed_rules
rules_stop program metas before after fault is = stops_at_first (listed_faults program metas before after)
    (if unbalanced (befores (listed_changes metas before after)) (afters (listed_changes metas before after))
    then Unbalanced ∷ [] else []) fault is

rules_go_on : (program : Key) (metas : List Meta) (before after : List Account) (t : Bool)
    → length after ≡ length before → AreInRange (length before) metas → SameUnlessListed metas before after
    → slice_get (listed_faults program metas before after) 0 ≡ None → unbalanced before after ≡ t
    → listed_rules program metas before after ≡ first_of (if t then Unbalanced ∷ [] else [])
unfolding listed_rules
rules_go_on program metas before after t count range same is sums =
    goes_past (listed_faults program metas before after) (if unbalanced (befores (listed_changes metas before after)) (afters (listed_changes metas before after)) then Unbalanced ∷ [] else []) is
    ∙ ap (λ u. first_of (if u then Unbalanced ∷ [] else [])) (same_balance metas before after count range same ∙ sums)

pub rules_unbalanced : (program : Key) (metas : List Meta) (before after : List Account)
    → length after ≡ length before → AreInRange (length before) metas → SameUnlessListed metas before after
    → slice_get (listed_faults program metas before after) 0 ≡ None → lamports_in before ≢ lamports_in after
    → listed_rules program metas before after ≡ Err Unbalanced
rules_unbalanced program metas before after count range same is differ = rules_go_on program metas before after true count range same is (test (lamports_in before) (lamports_in after) differ)
  where
    test : (x y : ℕ) → x ≢ y → not (nat_eq x y) ≡ true
    test x y differ = grind (arith, nat_tests)

pub rules_kept : (program : Key) (metas : List Meta) (before after : List Account)
    → length after ≡ length before → AreInRange (length before) metas → SameUnlessListed metas before after
    → slice_get (listed_faults program metas before after) 0 ≡ None → lamports_in before ≡ lamports_in after
    → listed_rules program metas before after ≡ Ok tt
rules_kept program metas before after count range same is equal = rules_go_on program metas before after false count range same is (test (lamports_in before) (lamports_in after) equal)
  where
    test : (x y : ℕ) → x ≡ y → not (nat_eq x y) ≡ false
    test x y equal = grind (arith, nat_tests)
