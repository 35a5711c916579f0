use Rattle.std.specs.Vec.Iter.{into_iter_items}
use Rattle.admission.specs.Admission.{start_of}
use Rattle.admission.proofs.WeighLaws.{AreFound}
use Rattle.admission.proofs.weighing.weigh_from.Given as goal

abbrev pub invariant-loop-wire : goal.invariant-loop-wire
invariant-loop-wire l = AreFound (start_of l.recent l.accounts l.limits) l.first l.fn.wires l.yielded (into_iter_items l.wire-iterator) l.position l.found
