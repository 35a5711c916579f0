-- When two lists of metas say the same of the accounts.
use Rattle.std.specs.Prelude.{◌≡◌, ℕ, List, map}
use Rattle.sol_base.specs.declared.lock.Meta.{Meta}
use Rattle.sol_base.specs.Metas.{is_listed_signer, is_listed_writable}

-- the accounts of a list, in their order
abbrev pub indexes : List Meta → List ℕ
indexes metas = map (λ meta. meta.index) metas

-- Two lists have the same accounts in the same order, and each account has the same rights of all
-- its metas together.
pub record SameListing (some others : List Meta) : Type 0 where
  pub order : indexes some ≡ indexes others
  pub signer : (place : ℕ) → is_listed_signer some place ≡ is_listed_signer others place
  pub writable : (place : ℕ) → is_listed_writable some place ≡ is_listed_writable others place
