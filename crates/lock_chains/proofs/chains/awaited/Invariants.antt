use Rattle.std.proofs.Common.{◌≡◌, take}
use Rattle.std.specs.List.{flat_map}
use Rattle.lock_chains.specs.Passing.{awaited_by}
use Rattle.lock_chains.proofs.chains.awaited.Given as goal

abbrev pub invariant-loop-lock : goal.invariant-loop-lock
invariant-loop-lock l = l.earlier.items ≡ flat_map (awaited_by l.last l.readers) (take l.lock-index l.locks)
