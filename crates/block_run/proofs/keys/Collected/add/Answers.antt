use Rattle.std.proofs.Common.{◌≡◌, List, true, subst}
use Rattle.sol_base.specs.declared.key.Key.{Key}
use Rattle.sol_base.specs.Keys.{has_key}
use Rattle.block_run.proofs.Collecting.{key_again}
use Rattle.block_run.proofs.keys.Collected.add.Goals as goal

pub returns-then-stands_at : goal.returns-then-stands_at
returns-then-stands_at c = λ all are. key_again all c.args.self.now.keys.items c.args.key.now are
    (subst (λ (ks : List Key). has_key c.args.key.now ks ≡ true) c.deref.ensures.value
    (c.stands_at.ensures c.if-stands_at.true))
