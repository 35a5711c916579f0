use Rattle.std.proofs.Common.{◌≡◌, ◌≤◌, ◌↔◌, ◌+◌, ◌∙◌, true, false, All, length, sym, ap, subst, arith}
use Rattle.sol_base.specs.declared.lock.Lock.{Lock}
use Rattle.block_shape.specs.Starts.{AllEndBy}
use Rattle.block_shape.specs.Ends.{end_of, held_until, locks_as, raised}
use Rattle.block_shape.proofs.Passing.{Passed, locks_here, length_here, Passed-none, start_bounded, Passed-next}
use Rattle.block_shape.proofs.starts.earliest_starts.Goals as goal

pub overflow_add-end : goal.overflow_add-end
overflow_add-end c =
    let order = c.args.order.now in
    let i = c.loop-chosen.chosen-index in
    let here = c.as_slice-locks.ensures ∙ locks_here order i c.chosen-item.result c.loop-chosen-test.true c.chosen-item.is in
    let held = λ (lock : Lock). held_until c.loop-chosen.written c.loop-chosen.read lock in
    let bound = start_bounded c.args.measure order c.loop-chosen.starts.items c.loop-chosen.written c.loop-chosen.read c.loop-chosen.longest i c.loop-chosen.invariant c.latest-start.result
    (subst (All (λ (lock : Lock). held lock ≤ c.latest-start.result)) here c.latest-start.ensures.above)
    (λ time all. c.latest-start.ensures.least time (subst (All (λ (lock : Lock). held lock ≤ time)) (sym here) all)) in
    let few = c.requires in
    let l = c.loop-chosen-test.true in
    let e = c.from.ensures in
    let f = c.length_by.type_inv in
    omega (arith, bound, few, l, e, f)

pub loop-chosen-init : goal.loop-chosen-init
loop-chosen-init c =
    Passed-none c.args.measure c.args.order.now c.in_ok-starts.starts.items c.new-written.result c.new-read.result c.in_ok-starts.ensures.items c.new-written.ensures.empty c.new-read.ensures.empty

pub loop-chosen-preserved : goal.loop-chosen-preserved
loop-chosen-preserved c =
    let order = c.args.order.now in
    let measure = c.args.measure in
    let i = c.loop-chosen.chosen-index in
    let start = c.latest-start.result in
    let end = start + c.from.result in
    let written = c.loop-chosen.written in
    let read = c.loop-chosen.read in
    let here = c.as_slice-locks.ensures ∙ locks_here order i c.chosen-item.result c.loop-chosen-test.true c.chosen-item.is in
    let long = c.length_by.ensures ∙ length_here measure order i c.chosen-item.result c.loop-chosen-test.true c.chosen-item.is in
    let held = λ (lock : Lock). held_until written read lock in
    let f = c.length_by.type_inv in
    subst (λ n. Passed measure order c.push.new.self.items c.raise.new.ends c.raise-in-loop-chosen.new.ends n (i + 1)) (sym c.max-longest.ensures)
    (Passed-next measure order c.loop-chosen.starts.items written read c.loop-chosen.longest i c.loop-chosen.invariant start
    (subst (All (λ (lock : Lock). held lock ≤ start)) here c.latest-start.ensures.above)
    (λ time all. c.latest-start.ensures.least time (subst (All (λ (lock : Lock). held lock ≤ time)) (sym here) all))
    c.push.new.self.items c.in_ok-push.ensures.items end (ap (λ n. start + n) (c.from.ensures ∙ long)) (omega (arith, f, long))
    c.raise.new.ends c.raise-in-loop-chosen.new.ends
    (λ key. c.in_ok-raise.ensures key ∙ ap (λ locks. raised (locks_as true locks key) end (end_of written key)) here)
    (λ key. c.in_ok-raise-2.ensures key ∙ ap (λ locks. raised (locks_as false locks key) end (end_of read key)) here))

pub returns-clause-earliest : goal.returns-clause-earliest
returns-clause-earliest c = λ i l.
    let stop = c.loop-chosen-test.false in
    c.loop-chosen.invariant.earliest i (omega (arith, l, stop))

pub returns-clause-longest : goal.returns-clause-longest
returns-clause-longest c = λ time.
    let stop = c.loop-chosen-test.false in
    let upto = c.loop-chosen.auto.chosen-index-end in
    let all : c.loop-chosen.chosen-index ≡ length c.args.order.now = omega (arith, stop, upto) in
    subst (λ n. (c.loop-chosen.longest ≤ time) ↔ AllEndBy c.args.measure c.args.order.now c.loop-chosen.starts.items n time) all (c.loop-chosen.invariant.greatest time)

pub returns-clause-fits : goal.returns-clause-fits
returns-clause-fits c = λ i l.
    let stop = c.loop-chosen-test.false in
    let few = c.requires in
    let upto = c.loop-chosen.auto.chosen-index-end in
    let bound = c.loop-chosen.invariant.bounded i (omega (arith, l, stop)) in
    omega (arith, few, stop, upto, bound)
