use Rattle.std.proofs.Common.{◌≡◌, drop}
use Rattle.block_shape.specs.Meets.{key_met}
use Rattle.block_shape.proofs.meets.key_met.Given as goal

-- what is found is found in the rest
abbrev pub invariant-loop-lock : goal.invariant-loop-lock
invariant-loop-lock l = key_met l.earlier l.locks ≡ key_met l.earlier (drop l.lock-index l.locks)
