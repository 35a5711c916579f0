use Rattle.std.proofs.Common.{◌≡◌, ◌++◌}
use Rattle.std.specs.Vec.Iter.{into_iter_items}
use Rattle.admission.specs.Admission.{walk}
use Rattle.admission.specs.Sums.{with_late}
use Rattle.admission.proofs.walk.walk.Given as goal

abbrev pub invariant-loop-one : goal.invariant-loop-one
invariant-loop-one l = record {
  all : l.yielded ++ into_iter_items l.one-iterator ≡ l.fn.line.items;
  ordered : l.order ≡ (walk l.limits l.yielded).order;
  caused : l.causes.items ≡ with_late (walk l.limits l.yielded).refused l.fn.causes.items;
}
