use Rattle.std.proofs.Common.{◌≡◌, map}
use Rattle.std.specs.List.{range_with_len}
use Rattle.sys_calls.specs.Slices.{slice_at}
use Rattle.sys_calls.proofs.slices.slices_in.Given as goal

-- those so far
abbrev pub invariant-loop-index : goal.invariant-loop-index
invariant-loop-index l = l.slices ≡ map (slice_at l.bytes) (range_with_len 0 l.index)
