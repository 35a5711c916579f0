use Rattle.std.proofs.Common.{arith}
use Rattle.snapshot_codec.proofs.MarkLaws.{marks_are_recent}
use Rattle.snapshot_codec.proofs.marks.read_recent.Goals as goal

pub recent_of-requires : goal.recent_of-requires
recent_of-requires c = marks_are_recent c.args.total c.args.bytes.now c.in_ok-marks.marks c.in_ok-marks.rest.now (λ i. omega (arith, c.type_inv.bytes i)) c.in_ok-marks.ensures
