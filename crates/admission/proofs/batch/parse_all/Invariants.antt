use Rattle.std.proofs.Common.{take}
use Rattle.admission.specs.Admission.{AreParsed}
use Rattle.admission.proofs.batch.parse_all.Given as goal

abbrev pub invariant-loop-wire : goal.invariant-loop-wire
invariant-loop-wire l = AreParsed (take l.wire-index l.wire-items) l.parsed
