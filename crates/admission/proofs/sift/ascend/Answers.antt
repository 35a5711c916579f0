use Rattle.std.proofs.Common.{arith, []}
use Rattle.std.proofs.lemmas.Map.Keys.{sorted_from_all_adjacent}
use Rattle.sol_base.specs.declared.key.Hash32.{Hash32}
use Rattle.sol_base.proofs.KeyLaws.{hash_cmp_total}
use Rattle.admission.proofs.sift.ascend.Goals as goal

pub returns : goal.returns
returns c = let d : Hash32 = record { 0 = [] } in λ _. sorted_from_all_adjacent hash_cmp_total c.args.names.now d (λ k l. c.loop-at.invariant k d (omega arith))
