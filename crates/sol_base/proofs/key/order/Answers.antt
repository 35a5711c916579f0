use Rattle.std.proofs.Common.{◌∙◌, arith}
use Rattle.sol_base.proofs.FrontLaws.{front_decides}
use Rattle.sol_base.proofs.key.order.Goals as goal

pub returns-else-x-y : goal.returns-else-x-y
returns-else-x-y c =
    c.cmp-else-x-y.ensures
    ∙ front_decides c.args.a.now c.args.b.now _ _ (omega arith) (omega arith) (λ i. omega (arith, c.fits-a i)) (λ i. omega (arith, c.fits-b i)) c.front-x.ensures c.front-y.ensures c.if-x-y.false
