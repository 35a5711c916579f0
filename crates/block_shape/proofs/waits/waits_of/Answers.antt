use Rattle.std.proofs.Common.{◌<◌, ◌-◌, ◌+◌, ◌^◌, ◌∙◌, true, false, List, ap, arith}
use Rattle.sol_base.specs.declared.lock.Lock.{Lock}
use Rattle.block_shape.specs.Ends.{end_of, locks_as, raised}
use Rattle.block_shape.specs.Waits.{counted_if, is_held_at, wait_of}
use Rattle.block_shape.proofs.Passing.{locks_here}
use Rattle.block_shape.proofs.WaitLaws.{Counted-next}
use Rattle.block_shape.proofs.waits.waits_of.Goals as goal

pub loop-position-preserved : goal.loop-position-preserved
loop-position-preserved c =
    let order = c.args.order.now in
    let i = c.loop-position.position in
    let waits = c.loop-position.waits in
    let written = c.loop-position.written in
    let read = c.loop-position.read in
    let here = c.as_slice-locks.ensures ∙ locks_here order i c.index-order-position.result c.loop-position-test.true c.index-order-position.is in
    let few : i < 2 ^ 32 - 1 = omega (arith, c.requires, c.loop-position-test.true) in
    Counted-next order waits written read i c.loop-position.invariant few c.count_at.new.waits
    (λ key. c.in_ok-count_at.ensures key ∙ ap (λ (locks : List Lock). counted_if (is_held_at written read locks key) (i + 1) (wait_of waits key)) here)
    c.raise.new.ends c.raise-in-loop-position.new.ends
    (λ key. c.in_ok-raise.ensures key ∙ ap (λ (locks : List Lock). raised (locks_as true locks key) 1 (end_of written key)) here)
    (λ key. c.in_ok-raise-2.ensures key ∙ ap (λ (locks : List Lock). raised (locks_as false locks key) 1 (end_of read key)) here)
