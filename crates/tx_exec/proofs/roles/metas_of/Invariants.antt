use Rattle.std.proofs.Common.{◌≡◌, map, take}
use Rattle.tx_exec.specs.Executing.{meta_of}
use Rattle.tx_exec.proofs.roles.metas_of.Given as goal

abbrev pub invariant-loop-place : goal.invariant-loop-place
invariant-loop-place l = l.metas ≡ map (meta_of l.chosen) (take l.place-index l.accounts)
