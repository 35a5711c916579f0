use Rattle.std.proofs.Common.{◌≡◌, ◌*◌, ◌≤◌, take}
use Rattle.admission.specs.Admission.{units_of}
use Rattle.block_shape.proofs.Passing.{most}
use Rattle.block_shape.proofs.figure.units_of.Given as goal

abbrev pub invariant-loop-chosen : goal.invariant-loop-chosen
invariant-loop-chosen l = record {
  so_far : l.units ≡ units_of (take l.chosen-index l.order);
  bounded : l.units ≤ l.chosen-index * most;
}
