use Rattle.std.proofs.Common.{◌≡◌, ◌++◌, length, take}
use Rattle.std.specs.List.{enumerate_from, flat_map}
use Rattle.sol_base.specs.Accounts.{accounts_of}
use Rattle.abi_input.specs.Region.{entry_start, lent_entry, patched_entry}
use Rattle.abi_input.proofs.patching.patch_entries.Given as goal

-- the entries of the metas so far
abbrev pub invariant-loop-place : goal.invariant-loop-place
invariant-loop-place l = record {
  bytes : l.draft.bytes ≡ l.fn.draft.bytes
      ++ flat_map (patched_entry l.laid.region.now.bytes (accounts_of l.laid.start.now) (accounts_of l.now)
      l.laid.listings.metas.now) (take l.place (enumerate_from 0 l.laid.listings.metas.now));
  lent : l.draft.lent ≡ l.fn.draft.lent
      ++ flat_map (lent_entry (accounts_of l.laid.start.now) (accounts_of l.now) l.laid.listings.metas.now)
      (take l.place (enumerate_from 0 l.laid.listings.metas.now));
  size : length l.draft.bytes ≡ entry_start (accounts_of l.laid.start.now) l.laid.listings.metas.now l.place;
  entry : l.entry ≡ entry_start (accounts_of l.laid.start.now) l.laid.listings.metas.now l.place;
}
