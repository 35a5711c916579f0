use Rattle.std.proofs.Common.{◌≡◌, ◌-◌, []}
use Rattle.spec_base.specs.Reading.{many_after}
use Rattle.snapshot_codec.specs.SnapshotReading.{name_after}
use Rattle.snapshot_codec.proofs.marks.read_names.Given as goal

-- what was read and what is left give what the whole gives
abbrev pub invariant-loop : goal.invariant-loop
invariant-loop l = many_after (name_after l.total) l.names (l.count - l.counter) l.rest ≡ many_after (name_after l.total) [] l.count l.bytes
