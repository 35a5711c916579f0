use Rattle.std.proofs.Common.{◌≤◌, ◌+◌, ◌++◌, ◌∷◌, ◌∙◌, true, false, [], All, List, Option, ℕ, sym, ap, ap₂, subst, arith}
use Rattle.std.specs.Prelude.{slice_index}
use Rattle.sol_base.specs.declared.lock.Lock.{Lock}
use Rattle.block_shape.specs.Ends.{locks_as}
use Rattle.block_shape.specs.Holders.{held_place, reach_of, reached}
use Rattle.block_shape.proofs.Passing.{locks_here, length_here}
use Rattle.block_shape.proofs.HolderLaws.{Held-none, Held-next}
use Rattle.block_shape.proofs.holders.last_holders.Goals as goal

pub overflow_add-end : goal.overflow_add-end
overflow_add-end c =
    let order = c.args.order.now in
    let i = c.loop-position.position in
    let long = c.length_by.ensures ∙ length_here c.args.measure order i c.index-order-position.result c.loop-position-test.true c.index-order-position.is in
    let fits = c.requires.fits i c.loop-position-test.true in
    let e = c.from.ensures in
    omega (arith, long, fits, e)

pub loop-position-init : goal.loop-position-init
loop-position-init c = Held-none c.args.measure c.args.order.now c.args.starts.now c.new-written.result
    c.new-read.result c.in_ok-holders.holders.items c.in_ok-holders.ensures.items c.new-written.ensures.empty
    c.new-read.ensures.empty

pub loop-position-preserved : goal.loop-position-preserved
loop-position-preserved c =
    let order = c.args.order.now in
    let measure = c.args.measure in
    let starts = c.args.starts.now in
    let i = c.loop-position.position in
    let written = c.loop-position.written in
    let read = c.loop-position.read in
    let place = c.last_place-place.result in
    let holders = c.loop-position.holders.items in
    let here = c.as_slice-locks.ensures ∙ locks_here order i c.index-order-position.result c.loop-position-test.true c.index-order-position.is in
    let long = c.from.ensures ∙ (c.length_by.ensures ∙ length_here measure order i c.index-order-position.result c.loop-position-test.true c.index-order-position.is) in
    let held = λ (lock : Lock). held_place written read (slice_index starts i) lock in
    Held-next measure order starts written read holders i c.loop-position.invariant
    ((c.requires.earliest i c.loop-position-test.true (slice_index starts i)).0 (omega arith)) place
    (subst (All (λ (lock : Lock). held lock ≤ place)) here c.last_place-place.ensures.above)
    (λ bound all. c.last_place-place.ensures.least bound (subst (All (λ (lock : Lock). held lock ≤ bound)) (sym here) all))
    c.push.new.self.items (c.in_ok-push.ensures.items ∙ ap (λ (o : Option ℕ). holders ++ o ∷ []) c.holder_of.ensures)
    c.note.new.reaches c.note-in-loop-position.new.reaches
    (λ key. c.in_ok-note.ensures key ∙ ap₂ (λ (locks : List Lock) (n : ℕ). reached (locks_as true locks key) (slice_index starts i + n) (i + 1) (reach_of written key)) here long)
    (λ key. c.in_ok-note-2.ensures key ∙ ap₂ (λ (locks : List Lock) (n : ℕ). reached (locks_as false locks key) (slice_index starts i + n) (i + 1) (reach_of read key)) here long)
