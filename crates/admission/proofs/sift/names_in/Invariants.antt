use Rattle.std.proofs.Common.{◌≡◌, take}
use Rattle.admission.specs.Weighing.{names_of}
use Rattle.admission.proofs.sift.names_in.Given as goal

abbrev pub invariant-loop-one : goal.invariant-loop-one
invariant-loop-one l = l.names.items ≡ names_of (take l.one-index l.batch)
