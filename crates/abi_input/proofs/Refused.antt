-- A region is refused at a place of the list.
use Rattle.std.proofs.Common.{◌<◌, ℕ, Bool, List, length, map, Option, Some, None}
use Rattle.std.specs.Prelude.{IfErr, IfSome, find, take, drop, ◌++◌}
use Rattle.std.specs.List.{enumerate_from, flat_map}
use Rattle.sol_base.specs.declared.account.Account.{Account}
use Rattle.sol_base.specs.declared.lock.Meta.{Meta}
use Rattle.sol_base.specs.Metas.{first_listings}
use Rattle.sol_base.proofs.Places.{found_among, listings_within}
use Rattle.abi_input.specs.Region.{account_back, back, entry_start, is_outgrown, is_too_long, patched, patched_entry, unless_found}

refused_within : {X : Type 0} (count : ℕ) (found : Option (ℕ × Meta)) (value : X) → IfSome found (λ (item : ℕ × Meta). item.0 < count) → IfErr (unless_found found value) (λ i. i < count)
refused_within count None value h = tt
refused_within count (Some item) value h = h

first_refused : {X : Type 0} (test : ℕ × Meta → Bool) (metas : List Meta) (value : X) → IfErr (unless_found (find test (first_listings metas)) value) (λ i. i < length metas)
first_refused test metas value = refused_within (length metas) (find test (first_listings metas)) value
    (found_among (λ (item : ℕ × Meta). item.0 < length metas) test (first_listings metas)
    (listings_within metas))

pub back_within : (region : List ℕ) (start now : List Account) (metas : List Meta) → IfErr (back region start now metas) (λ i. i < length metas)
unfolding back
back_within region start now metas = first_refused (is_too_long region start metas) metas (map (account_back region start metas) (enumerate_from 0 now))

pub patched_within : (region : List ℕ) (start now : List Account) (metas : List Meta) → IfErr (patched region start now metas) (λ i. i < length metas)
unfolding patched
patched_within region start now metas =
    first_refused (is_outgrown start now) metas (take 8 region ++ flat_map (patched_entry region start now metas) (enumerate_from 0 metas) ++ drop (entry_start start metas (length metas)) region)
