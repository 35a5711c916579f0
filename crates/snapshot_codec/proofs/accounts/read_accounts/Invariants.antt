use Rattle.std.proofs.Common.{◌≡◌, ◌-◌, []}
use Rattle.spec_base.specs.Reading.{many_after}
use Rattle.account_store.specs.State.{lamports_of}
use Rattle.account_store.specs.Sorted.{entries_of}
use Rattle.snapshot_codec.specs.SnapshotReading.{account_after}
use Rattle.snapshot_codec.proofs.accounts.read_accounts.Given as goal

-- what was read and what is left give what the whole gives, and the lamports are counted
abbrev pub invariant-loop : goal.invariant-loop
invariant-loop l = record {
  so_far : many_after (account_after l.total) l.accounts (l.count - l.counter) l.rest ≡ many_after (account_after l.total) [] l.count l.bytes;
  counted : l.supply ≡ lamports_of (entries_of l.accounts);
}
