-- The broken rules of the accounts that a frame lists, meta by meta.
use Rattle.std.proofs.Common.{◌≡◌, ℕ, ◌+◌, ◌<◌, Bool, true, false, not, List, [], ◌∷◌, length, map, take, get_or, refl, sym, ap, ◌∙◌, Option, Some, None, arith, if◌then◌else◌, zero-add, slice_get}
use Rattle.std.specs.List.{enumerate_from, filter, filter_map, cons_option}
use Rattle.std.proofs.Math.Seq.{take-length}
use Rattle.std.proofs.lemmas.List.FromFn.{get_or-enumerate_from, length-enumerate_from}
use Rattle.std.proofs.lemmas.Option.{get_or_from_slice_get, same_Some, slice_get-get_or, slice_get_read}
use Rattle.std.proofs.Math.ListN.{get_or-map}
use Rattle.std.specs.Bool.{IsTrue}
use Rattle.std.specs.Arc.{arc_value}
use Rattle.std.specs.declared.sync.Arc.{Arc}
use Rattle.std.specs.declared.alloc.Global.{Global}
use Rattle.spec_base.proofs.Filters.{nothing_more, first_found}
use Rattle.sol_base.specs.declared.key.Key.{Key}
use Rattle.sol_base.specs.declared.account.Account.{Account}
use Rattle.sol_base.specs.declared.lock.Meta.{Meta}
use Rattle.sol_base.specs.Accounts.{accounts_of, empty_account, SameUnlessTouched}
use Rattle.sol_base.specs.Metas.{is_first_listing, is_listed, is_listed_writable}
use Rattle.account_rules.specs.declared.rules.RuleFault.{RuleFault}
use Rattle.account_rules.specs.AccountRules.{broken_by, broken_rule, listed_change, listed_faults}

-- a function over what passes a test, in one walk
filter_map-filter : {X Y Z : Type 0} (p : X → Bool) (h : X → Z) (f : Z → Option Y) (xs : List X) → filter_map f (map h (filter p xs)) ≡ filter_map (λ x. if p x then f (h x) else None) xs
filter_map-filter p h f [] = refl
filter_map-filter p h f (x ∷ xs) =
    elim (p x) as (λ t. filter_map f (map h (if t then (x ∷ filter p xs) else filter p xs)) ≡ cons_option (if t then f (h x) else None) (filter_map (λ y. if p y then f (h y) else None) xs)) [
      | true ↦ ap (cons_option (f (h x))) (filter_map-filter p h f xs)
      | false ↦ filter_map-filter p h f xs
    ]

-- the metas, each with its place
abbrev pub listings : List Meta → List (ℕ × Meta)
listings metas = enumerate_from 0 metas

-- what the account of a meta breaks, if that is its first meta
abbrev pub fault_of : Key → List Meta → List Account → List Account → ℕ × Meta → Option RuleFault
fault_of program metas before after listing = if is_first_listing metas listing then broken_by program (listed_change metas before after listing) else None

pub faults_of : (program : Key) (metas : List Meta) (before after : List Account) → listed_faults program metas before after ≡ filter_map (fault_of program metas before after) (listings metas)
faults_of program metas before after = filter_map-filter (is_first_listing metas) (listed_change metas before after) (broken_by program) (listings metas)

-- none of the accounts of the first n metas breaks a rule
abbrev pub NoneBroken : Key → List Meta → List Account → List Account → ℕ → Type 0
NoneBroken program metas before after n = filter_map (fault_of program metas before after) (take n (listings metas)) ≡ []

pub listing_at : (metas : List Meta) (n : ℕ) (d : Meta) → n < length metas → get_or (listings metas) n (n, d) ≡ (n, get_or metas n d)
listing_at metas n d below = get_or-enumerate_from 0 metas n (n, d) below ∙ ap (λ (k : ℕ). (k, get_or metas n d)) (zero-add n)

pub length-listings : (metas : List Meta) → length (listings metas) ≡ length metas
length-listings metas = length-enumerate_from 0 metas

module _ (program : Key) (metas : List Meta) (before after : List Account) where
  pub goes_on : (n : ℕ) (d : Meta) → n < length metas → NoneBroken program metas before after n
      → fault_of program metas before after (n, get_or metas n d) ≡ None
      → NoneBroken program metas before after (n + 1)
  goes_on n d below none here = nothing_more (fault_of program metas before after) (listings metas) n (n, d)
      (omega (arith, length-listings metas)) none
      (ap (fault_of program metas before after) (listing_at metas n d below) ∙ here)

  pub stops : (n : ℕ) (d : Meta) (fault : RuleFault) → n < length metas
      → NoneBroken program metas before after n
      → fault_of program metas before after (n, get_or metas n d) ≡ Some fault
      → slice_get (listed_faults program metas before after) 0 ≡ Some fault
  stops n d fault below none here = ap (λ (faults : List RuleFault). slice_get faults 0)
      (faults_of program metas before after
      ∙ first_found (fault_of program metas before after) (listings metas) n (n, d) fault
      (omega (arith, length-listings metas)) none
      (ap (fault_of program metas before after) (listing_at metas n d below) ∙ here))

  pub ends : (n : ℕ) → n ≡ length metas → NoneBroken program metas before after n → slice_get (listed_faults program metas before after) 0 ≡ None
  ends n over none = ap (λ (faults : List RuleFault). slice_get faults 0)
      (faults_of program metas before after
      ∙ ap (filter_map (fault_of program metas before after))
      (sym (take-length (listings metas))
      ∙ ap (λ m. take m (listings metas)) (length-listings metas ∙ sym over)) ∙ none)

  -- a meta whose account was listed before says nothing
  pub again : (n : ℕ) (meta : Meta) → is_listed (take n metas) meta.index ≡ true → fault_of program metas before after (n, meta) ≡ None
  again n meta listed = ap (λ t. if not t then broken_by program (listed_change metas before after (n, meta)) else None) listed

  -- one whose account was not says what that breaks
  pub at_first : (n : ℕ) (meta : Meta) → is_listed (take n metas) meta.index ≡ false → fault_of program metas before after (n, meta) ≡ broken_by program (listed_change metas before after (n, meta))
  at_first n meta new = ap (λ t. if not t then broken_by program (listed_change metas before after (n, meta)) else None) new

-- ---- the accounts of one meta
-- an account behind the share at a place
value_at : (shares : List (Arc Account Global)) (k : ℕ) (share : Arc Account Global)
    → k < length (accounts_of shares) → share ≡ get_or shares k share
    → slice_get (accounts_of shares) k ≡ Some (arc_value share)
value_at shares k share below is =
    let value : Arc Account Global → Account = λ s. arc_value s in
    slice_get_read (accounts_of shares) (length (accounts_of shares)) k (arc_value share) refl below (sym (get_or-map value shares k share ∙ ap value (sym is)))

untouched : (t : Bool) → IsTrue (not t) → t ≡ false
untouched true holds = absurd (cc)
untouched false holds = refl

pub same_at : (touched : List Bool) (before after : List (Arc Account Global))
    → SameUnlessTouched touched (accounts_of before) (accounts_of after) → (k : ℕ) (b a : Arc Account Global)
    → k < length touched → k < length (accounts_of before) → k < length (accounts_of after)
    → b ≡ get_or before k b → a ≡ get_or after k a → IsTrue (not (get_or touched k false))
    → arc_value a ≡ arc_value b
same_at touched before after same k b a marked below_b below_a is_b is_a clear =
    let flag : slice_get touched k ≡ Some false = slice_get-get_or touched k false marked ∙ ap Some (untouched (get_or touched k false) clear) in
    same_Some (arc_value a) (arc_value b) (sym (value_at after k a below_a is_a) ∙ same k flag ∙ value_at before k b below_b is_b)

pub rule_at : (program : Key) (metas : List Meta) (before after : List (Arc Account Global)) (n : ℕ)
    (meta : Meta) (writable : Bool) (b a : Arc Account Global) (x y : Account)
    → meta.index < length (accounts_of before) → meta.index < length (accounts_of after)
    → is_listed_writable metas meta.index ≡ writable → b ≡ get_or before meta.index b
    → a ≡ get_or after meta.index a → x ≡ arc_value b → y ≡ arc_value a
    → broken_by program (listed_change metas (accounts_of before) (accounts_of after) (n, meta))
    ≡ broken_rule program writable x y n
rule_at program metas before after n meta writable b a x y below_b below_a flag is_b is_a is_x is_y =
    let first : get_or (accounts_of before) meta.index empty_account
    ≡ x = get_or_from_slice_get (accounts_of before) meta.index (arc_value b) empty_account
    (value_at before meta.index b below_b is_b) ∙ sym is_x in
    let second : get_or (accounts_of after) meta.index empty_account
    ≡ y = get_or_from_slice_get (accounts_of after) meta.index (arc_value a) empty_account
    (value_at after meta.index a below_a is_a) ∙ sym is_y in
    λ i. broken_rule program (flag i) (first i) (second i) n
