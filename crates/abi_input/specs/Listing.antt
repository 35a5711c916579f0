-- How a list of metas lists each account.
use Rattle.std.specs.Prelude.{◌≡◌, ℕ, ◌<◌, ◌==◌, ◌||◌, List, slice_get, Some}
use Rattle.std.specs.List.{position}
use Rattle.std.specs.Option.{option_or}
use Rattle.sol_base.specs.declared.lock.Meta.{Meta}
use Rattle.sol_base.specs.Metas.{is_listed_signer, is_listed_writable}
use Rattle.abi_input.specs.declared.listing.Listing.{Listing}

abbrev pub listing_in : List Meta → ℕ → Listing
listing_in metas index = record {
  first = position (λ meta. meta.index == index) metas;
  signer = is_listed_signer metas index;
  writable = is_listed_writable metas index;
}

-- a listing after one meta more that lists the account
abbrev pub listed_again : Listing → ℕ → Meta → Listing
listed_again listing place meta = record {
  first = option_or listing.first (Some place);
  signer = listing.signer || meta.signer;
  writable = listing.writable || meta.writable;
}

-- the listings of all accounts that a meta can name
abbrev pub IsTableOf : List Meta → List Listing → Type 0
IsTableOf metas table =
    (index : ℕ) → index < 256 → slice_get table index ≡ Some (listing_in metas index)
