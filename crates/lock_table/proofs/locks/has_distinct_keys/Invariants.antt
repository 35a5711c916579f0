use Rattle.std.proofs.Common.{take}
use Rattle.std.specs.List.{IsDistinct}
use Rattle.bank_law.specs.Job.{same_key, lock_keys}
use Rattle.lock_table.proofs.locks.has_distinct_keys.Given as goal

abbrev pub invariant-loop-i : goal.invariant-loop-i
invariant-loop-i l = IsDistinct same_key (lock_keys (take l.i l.locks))
