use Rattle.std.proofs.Common.{ap, arith}
use Rattle.admission.specs.declared.chosen.Chosen.{Chosen}
use Rattle.admission.proofs.SumLaws.{room_for}
use Rattle.admission.proofs.units.sums_of.Goals as goal

pub add_units-requires-clause-fits : goal.add_units-requires-clause-fits
add_units-requires-clause-fits c = λ key.
    let room = room_for c.args.order.now c.loop-one.one-index c.one-item.result key c.loop-one-test.true c.one-item.is c.requires.fits in
    let sum = c.loop-one.invariant key in
    let same = ap (λ (one : Chosen). one.budget.limit) c.chosen-chosen.ensures in
    omega (arith, room, sum, same, c.from.ensures)
