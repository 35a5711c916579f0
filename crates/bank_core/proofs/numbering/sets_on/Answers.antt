use Rattle.std.proofs.Common.{◌≡◌, ◌++◌, length, take, drop, ap, arith}
use Rattle.std.proofs.lemmas.List.{take_at}
use Rattle.bank_core.proofs.Openings.{sets_read}
use Rattle.bank_core.proofs.numbering.sets_on.Goals as goal

pub returns-clause-numbered : goal.returns-clause-numbered
returns-clause-numbered g c =
    let kept = c.number_each.auto.slots in
    let made = c.in_ok-slots.ensures in
    let value = ap length c.as_mut_slice.ensures.value in
    let here = c.count-count.ensures in
    let count : length c.as_mut_slice.result.now ≡ (g.L.Locked.job c.args.locked.now).count = omega (arith, made, value, here) in
    let full : length c.number_each.new.slots ≡ c.in_ok-slots.slots.len = omega (arith, kept, c.as_mut_slice.ensures.len) in
    sets_read (g.L.Locked.job c.args.locked.now) c.args.table.now c.as_mut_slice.result.now c.number_each.new.slots
    (take c.in_ok-slots.slots.len (c.number_each.new.slots ++ drop (length c.number_each.new.slots) c.in_ok-slots.slots.items)) c.sets_in.result count kept c.number_each.ensures
    (take_at c.number_each.new.slots (drop (length c.number_each.new.slots) c.in_ok-slots.slots.items) c.in_ok-slots.slots.len full) c.sets_in.ensures
