use Rattle.std.specs.Vec.Iter.{into_iter_items}
use Rattle.bank_core.proofs.Openings.{AreTaken}
use Rattle.bank_core.proofs.numbering.sets_in.Given as goal

abbrev pub invariant-loop-slot : goal.invariant-loop-slot
invariant-loop-slot l = AreTaken l.fn.slots.items l.yielded (into_iter_items l.slot-iterator) l.sets
