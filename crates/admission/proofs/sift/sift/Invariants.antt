use Rattle.std.specs.Vec.Iter.{into_iter_items}
use Rattle.admission.proofs.SiftLaws.{AreSifted}
use Rattle.admission.proofs.sift.sift.Given as goal

abbrev pub invariant-loop-one : goal.invariant-loop-one
invariant-loop-one l = AreSifted l.fn.batch l.yielded (into_iter_items l.one-iterator) l.standing.items l.causes.items
