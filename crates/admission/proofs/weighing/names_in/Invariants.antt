use Rattle.std.proofs.Common.{◌≡◌, take}
use Rattle.std.specs.List.{filter_map}
use Rattle.admission.specs.Weighing.{name_in}
use Rattle.admission.proofs.weighing.names_in.Given as goal

abbrev pub invariant-loop-wire : goal.invariant-loop-wire
invariant-loop-wire l = l.names.items ≡ filter_map name_in (take l.wire-index l.fn.wires)
