use Rattle.std.proofs.Common.{◌≡◌, ◌++◌, length, take}
use Rattle.std.specs.List.{enumerate_from, flat_map}
use Rattle.sol_base.specs.Accounts.{accounts_of}
use Rattle.abi_input.specs.Region.{entry_of, entry_start, lent_entry}
use Rattle.abi_input.proofs.laying.add_entries.Given as goal

-- the entries of the metas so far
abbrev pub invariant-loop-place : goal.invariant-loop-place
invariant-loop-place l = record {
  bytes : l.draft.bytes ≡ l.fn.draft.bytes ++ flat_map (entry_of l.keys (accounts_of l.accounts) l.listings.metas.now) (take l.place (enumerate_from 0 l.listings.metas.now));
  lent : l.draft.lent ≡ l.fn.draft.lent ++ flat_map (lent_entry (accounts_of l.accounts) (accounts_of l.accounts) l.listings.metas.now) (take l.place (enumerate_from 0 l.listings.metas.now));
  size : length l.draft.bytes ≡ entry_start (accounts_of l.accounts) l.listings.metas.now l.place;
}
