use Rattle.std.proofs.Common.{◌≡◌, ◌++◌, take}
use Rattle.bank_law.specs.Job.{lock_keys}
use Rattle.bank_core.proofs.opening.push_keys.Given as goal

abbrev pub invariant-loop-lock : goal.invariant-loop-lock
invariant-loop-lock l = l.keys.items ≡ l.initial.keys.items ++ lock_keys (take l.lock-index l.locks)
