use Rattle.std.proofs.Common.{◌≤◌, ◌+◌, ◌-◌, min, take}
use Rattle.std.specs.Prelude.{◌^◌, if◌then◌else◌}
use Rattle.sol_base.specs.declared.key.Key.{Key}
use Rattle.admission.specs.Admission.{locks_write}
use Rattle.admission.specs.Sums.{bucket_sum}
use Rattle.admission.proofs.units.add_to_buckets.Given as goal

-- the limit is in the buckets of the keys so far
abbrev pub invariant-loop-lock : goal.invariant-loop-lock
invariant-loop-lock l = (key : Key) → min (2 ^ 64 - 1) (bucket_sum l.fn.buckets key + (if locks_write (take l.lock-index l.locks) key then l.limit else 0)) ≤ bucket_sum l.buckets key
