use Rattle.std.proofs.Common.{◌≡◌, ◌-◌, ◌≤◌, drop}
use Rattle.sbpf_memory.specs.Plain.{plain_memory}
use Rattle.sys_calls.specs.Access.{held}
use Rattle.sys_calls.specs.SysCalls.{differing}
use Rattle.sys_calls.proofs.memory.difference_between.Given as goal

-- the bytes so far are the same
abbrev pub invariant-loop-at : goal.invariant-loop-at
invariant-loop-at l = record {
  within : l.at ≤ l.count;
  same : differing (held (plain_memory l.memory) l.one l.count) (held (plain_memory l.memory) l.other l.count)
      ≡ differing (drop l.at (held (plain_memory l.memory) l.one l.count))
      (drop l.at (held (plain_memory l.memory) l.other l.count));
}

abbrev pub decreases-loop-at : goal.decreases-loop-at
decreases-loop-at l = l.count - l.at
