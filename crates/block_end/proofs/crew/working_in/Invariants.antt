use Rattle.std.proofs.Common.{◌≡◌, ◌≤◌, length, filter, take}
use Rattle.block_end.specs.Crew.{has_instruction}
use Rattle.block_end.proofs.crew.working_in.Given as goal

abbrev pub invariant-loop-one : goal.invariant-loop-one
invariant-loop-one l = (l.working ≡ length (filter has_instruction (take l.one-index l.order))) × (l.working ≤ l.one-index)
