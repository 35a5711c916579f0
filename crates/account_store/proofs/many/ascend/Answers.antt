use Rattle.std.proofs.Common.{arith, []}
use Rattle.std.proofs.lemmas.Map.Keys.{sorted_from_all_adjacent}
use Rattle.sol_base.specs.declared.key.Key.{Key}
use Rattle.sol_base.proofs.KeyLaws.{key_cmp_total}
use Rattle.account_store.proofs.many.ascend.Goals as goal

pub returns : goal.returns
returns c = let d : Key = record { 0 = [] } in λ _. sorted_from_all_adjacent key_cmp_total c.args.keys.now d (λ k l. c.loop-at.invariant k d (omega arith))
