use Rattle.std.proofs.Common.{take}
use Rattle.std.specs.List.{flat_map}
use Rattle.sha2.specs.Hashers.{Holds256}
use Rattle.sol_base.proofs.derived.signing_key.Given as goal

abbrev pub invariant-loop-seed : goal.invariant-loop-seed
invariant-loop-seed l = Holds256 l.hasher (flat_map (λ seed. seed) (take l.seed-index l.seeds))
