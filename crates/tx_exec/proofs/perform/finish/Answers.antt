use Rattle.std.proofs.Common.{◌<◌, ℕ, Option, length, subst, arith}
use Rattle.std.specs.Prelude.{IfSome}
use Rattle.tx_exec.proofs.Fitting.{keys_few, locks_beside}
use Rattle.tx_exec.proofs.perform.finish.Goals as goal

pub overflow_cast-failure : goal.overflow_cast-failure
overflow_cast-failure c =
    let few = keys_few c.args.transaction.now.chosen.now c.requires.chosen in
    let beside = locks_beside c.args.transaction.now.chosen.now c.requires.chosen in
    let below = subst (λ (o : Option ℕ). IfSome o (λ place. place < length c.args.transaction.now.chosen.now.locks)) c.in-Some.is c.requires.within in
    omega (arith, few, beside, below)
