use Rattle.std.proofs.Common.{◌≡◌, map, take}
use Rattle.tx_build.specs.Built.{placed}
use Rattle.tx_build.proofs.message.all_placed.Given as goal

-- the instructions so far
abbrev pub invariant-loop-instruction : goal.invariant-loop-instruction
invariant-loop-instruction l = l.all ≡ map (placed l.keys) (take l.instruction-index l.instructions)
