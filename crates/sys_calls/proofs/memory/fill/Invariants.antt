use Rattle.std.proofs.Common.{◌≡◌, ◌-◌, ◌≤◌, replicate, Ok}
use Rattle.sbpf_memory.specs.Memory.{write_to}
use Rattle.sys_calls.proofs.memory.fill.Given as goal

-- the bytes so far are filled
abbrev pub invariant-loop-at : goal.invariant-loop-at
invariant-loop-at l = record {
  within : l.at ≤ l.count;
  filled : write_to l.initial.memory l.to (replicate l.at l.byte) ≡ Ok l.memory;
}

abbrev pub decreases-loop-at : goal.decreases-loop-at
decreases-loop-at l = l.count - l.at
