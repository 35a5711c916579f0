use Rattle.std.proofs.Common.{◌≡◌, take}
use Rattle.std.specs.List.{enumerate_from, filter_map}
use Rattle.admission.specs.Sums.{numbered_at}
use Rattle.admission.proofs.walk.numbered.Given as goal

abbrev pub invariant-loop-position : goal.invariant-loop-position
invariant-loop-position l = l.refused ≡ filter_map numbered_at (take l.position (enumerate_from 0 l.causes))
