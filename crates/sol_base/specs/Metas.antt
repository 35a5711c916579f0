-- The accounts that a frame lists, by their places among the transaction's keys (Solana). An
-- account that is listed several times has the rights of all its metas together.
use Rattle.std.specs.Prelude.{◌≡◌, ℕ, ◌<◌, ◌==◌, ◌&&◌, Bool, false, not, All, List, filter, take, slice_get}
use Rattle.std.specs.List.{list_any, enumerate_from}
use Rattle.sol_base.specs.declared.account.Account.{Account}
use Rattle.sol_base.specs.declared.lock.Meta.{Meta}
use Rattle.sol_base.specs.declared.lock.TheConstants.{MAX_METAS}

-- the most accounts that a frame lists
abbrev pub max_metas : ℕ
max_metas = MAX_METAS

-- what stands where no meta does
abbrev pub no_meta : Meta
no_meta = record { index = 0; signer = false; writable = false }

abbrev pub is_listed : List Meta → ℕ → Bool
is_listed metas place = list_any (λ meta. meta.index == place) metas

abbrev pub is_listed_writable : List Meta → ℕ → Bool
is_listed_writable metas place = list_any (λ meta. meta.index == place && meta.writable) metas

abbrev pub is_listed_signer : List Meta → ℕ → Bool
is_listed_signer metas place = list_any (λ meta. meta.index == place && meta.signer) metas

-- each meta names an account that is there
abbrev pub AreInRange : ℕ → List Meta → Type 0
AreInRange count metas = All (λ meta. meta.index < count) metas

-- no meta before this place lists the account
abbrev pub is_first_listing : List Meta → ℕ × Meta → Bool
is_first_listing metas (at, meta) = not (is_listed (take at metas) meta.index)

-- the accounts of a frame, each once, in the order of their first listings: each with the place of
-- that meta in the list
abbrev pub first_listings : List Meta → List (ℕ × Meta)
first_listings metas = filter (is_first_listing metas) (enumerate_from 0 metas)

-- what is not listed has the same value before and after
abbrev pub SameUnlessListed : List Meta → List Account → List Account → Type 0
SameUnlessListed metas before after =
    (place : ℕ) → is_listed metas place ≡ false → slice_get after place ≡ slice_get before place
