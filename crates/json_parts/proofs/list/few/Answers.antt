use Rattle.std.proofs.Common.{arith}
use Rattle.json_parts.proofs.Lists.{few_items, many_items}
use Rattle.json_parts.proofs.list.few.Goals as goal

pub returns-then-values-most-clause-gives : goal.returns-then-values-most-clause-gives
returns-then-values-most-clause-gives c = rw c.refused.ensures (many_items c.args.most c.args.values.now (omega (arith, c.if-values-most.true)))

pub returns-clause-gives : goal.returns-clause-gives
returns-clause-gives c = few_items c.args.most c.args.values.now (omega (arith, c.if-values-most.false))
