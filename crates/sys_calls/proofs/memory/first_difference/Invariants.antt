use Rattle.std.proofs.Common.{◌≡◌, drop}
use Rattle.sys_calls.specs.SysCalls.{differing}
use Rattle.sys_calls.proofs.memory.first_difference.Given as goal

-- the bytes so far are the same
abbrev pub invariant-loop-i : goal.invariant-loop-i
invariant-loop-i l = differing l.one l.other ≡ differing (drop l.i l.one) (drop l.i l.other)
