use Rattle.std.proofs.Common.{◌==◌, slice_index, arith}
use Rattle.bank_law.proofs.Held.{count_below-most}
use Rattle.prio_graph.proofs.graph.count_free.Goals as goal

pub overflow_add-free : goal.overflow_add-free
overflow_add-free c =
    let most = count_below-most (λ k. slice_index c.args.waits.now k == 0) c.loop-i.i in
    let is = c.loop-i.invariant in
    let below = c.loop-i-test.true in
    let few = c.requires in
    let end = c.loop-i.auto.i-end in
    omega (arith, most, is, below, few, end)
