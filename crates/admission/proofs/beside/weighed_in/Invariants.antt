use Rattle.std.specs.Vec.Iter.{into_iter_items}
use Rattle.admission.proofs.BesideLaws.{AreTaken}
use Rattle.admission.proofs.beside.weighed_in.Given as goal

abbrev pub invariant-loop-slot : goal.invariant-loop-slot
invariant-loop-slot l = AreTaken l.fn.slots.items l.yielded (into_iter_items l.slot-iterator) l.found
