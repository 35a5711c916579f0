use Rattle.std.proofs.Common.{◌≡◌, length, None}
use Rattle.sol_base.specs.Accounts.{accounts_of}
use Rattle.abi_input.specs.Region.{entry_start, is_too_long}
use Rattle.abi_input.specs.Entries.{found_among, AreEntries}
use Rattle.abi_input.proofs.taking.checked_entries.Given as goal

-- the entries of the metas so far, none of which is refused
abbrev pub invariant-loop-place : goal.invariant-loop-place
invariant-loop-place l = record {
  long : length l.entries ≡ 256;
  entry : l.entry ≡ entry_start (accounts_of l.laid.start.now) l.laid.listings.metas.now l.place;
  entries : AreEntries (accounts_of l.laid.start.now) l.laid.listings.metas.now l.place l.entries;
  none : found_among (is_too_long l.laid.region.now.bytes (accounts_of l.laid.start.now) l.laid.listings.metas.now) l.laid.listings.metas.now l.place ≡ None;
}
