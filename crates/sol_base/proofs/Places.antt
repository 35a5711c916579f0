-- Places in lists of metas: what is listed first, or found, has a place in the list.
use Rattle.std.proofs.Common.{◌+◌, ◌<◌, ◌≤◌, ℕ, List, [], ◌∷◌, length, Bool, true, false, Some, cond, arith}
use Rattle.std.specs.Prelude.{IfSome, filter}
use Rattle.std.specs.List.{AllByRecursion, enumerate_from, find}
use Rattle.sol_base.specs.declared.lock.Meta.{Meta}
use Rattle.sol_base.specs.Metas.{first_listings, is_first_listing}
use Rattle.spec_base.proofs.Lists.{AllByRecursion-filter}

-- each of these stands at one of so many places
abbrev pub StandWithin : {X : Type 0} → ℕ → List (ℕ × X) → Type 0
StandWithin {X} count items = AllByRecursion (λ (item : ℕ × X). item.0 < count) items

enumerated : {X : Type 0} (count from : ℕ) (xs : List X) → from + length xs ≤ count → StandWithin count (enumerate_from from xs)
enumerated count from [] h = tt
enumerated count from (x ∷ xs) h = (omega (arith, h), enumerated count (from + 1) xs (omega (arith, h)))

pub listings_within : (metas : List Meta) → StandWithin (length metas) (first_listings metas)
listings_within metas = AllByRecursion-filter (λ (item : ℕ × Meta). item.0 < length metas) (is_first_listing metas) (enumerate_from 0 metas) (enumerated (length metas) 0 metas (omega arith))

-- what is found among some is one of them
pub found_among : {X : Type 0} (P : X → Type 0) (test : X → Bool) (xs : List X) → AllByRecursion P xs → IfSome (find test xs) P
found_among P test [] all = tt
found_among P test (x ∷ xs) all = by_test (test x) (found_among P test xs all.1)
  where
    by_test : (b : Bool) → IfSome (find test xs) P → IfSome (cond b (Some x) (find test xs)) P
    by_test true rest = all.0
    by_test false rest = rest
