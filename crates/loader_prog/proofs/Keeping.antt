-- What the accounts keep.
use Rattle.std.proofs.Common.{◌≡◌, ℕ, List, [], ◌∷◌, Ok, length, sym, ap, ◌∙◌, subst}
use Rattle.std.proofs.lemmas.List.{length-set}
use Rattle.sol_base.specs.declared.key.Key.{Key}
use Rattle.sol_base.specs.declared.key.TheConstants.{LOADER_PROGRAM}
use Rattle.sol_base.specs.declared.account.Account.{Account}
use Rattle.sol_base.specs.declared.lock.Meta.{Meta}
use Rattle.sol_base.specs.Metas.{AreInRange, SameUnlessListed, is_listed_writable}
use Rattle.account_rules.specs.AccountRules.{listed_rules}
use Rattle.account_rules.specs.KeptAccounts.{AreKeptBy, AreForeignKept}
use Rattle.account_rules.proofs.KeptLaws.{AreKeptBy-listed_rules, AreForeignKept-listed_rules}
use Rattle.loader_prog.specs.Loader.{account_in, holding, loader_row, place_in}
use Rattle.loader_prog.proofs.Inversion.{ends_well, some_account}
use Rattle.loader_prog.proofs.Replacing.{unlisted_same}

-- where an instruction ends well
pub record Ends (metas : List Meta) (before after : List Account) : Type 0 where
  pub count : length after ≡ length before
  pub others : SameUnlessListed metas before after
  pub unbroken : listed_rules LOADER_PROGRAM metas before after ≡ Ok tt

pub loader_ends : (keys : List Key) (accounts : List Account) (metas : List Meta) (input : List ℕ) (after : List Account) → loader_row keys accounts metas input ≡ Ok after → Ends metas accounts after
loader_ends keys accounts metas input after h =
    let well = ends_well keys accounts metas input after h in
    let account : Account = holding (account_in accounts metas 0) well.bytes in
    record {
      count = ap length (sym well.written) ∙ length-set accounts (place_in metas 0) account;
      others = subst (λ (l : List Account). SameUnlessListed metas accounts l) well.written (unlisted_same metas accounts account (some_account well.request (length metas) well.enough));
      unbroken = well.unbroken;
    }

-- what the accounts keep
pub loader_keeps : (keys : List Key) (accounts : List Account) (metas : List Meta) (input : List ℕ)
    (after : List Account) → AreInRange (length accounts) metas
    → loader_row keys accounts metas input ≡ Ok after
    → AreKeptBy (is_listed_writable metas) accounts after
loader_keeps keys accounts metas input after range h =
    let ends = loader_ends keys accounts metas input after h in
    AreKeptBy-listed_rules LOADER_PROGRAM metas accounts after ends.count range ends.others ends.unbroken

-- and those that other programs own
pub loader_foreign : (keys : List Key) (accounts : List Account) (metas : List Meta) (input : List ℕ)
    (after : List Account) → AreInRange (length accounts) metas
    → loader_row keys accounts metas input ≡ Ok after
    → AreForeignKept (LOADER_PROGRAM ∷ []) accounts after
loader_foreign keys accounts metas input after range h =
    let ends = loader_ends keys accounts metas input after h in
    AreForeignKept-listed_rules LOADER_PROGRAM metas accounts after ends.count range ends.others ends.unbroken
