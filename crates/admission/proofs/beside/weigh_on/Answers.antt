use Rattle.std.proofs.Common.{◌≡◌, ◌∙◌, ◌++◌, List, length, map, take, drop, All, ap, subst, arith}
use Rattle.std.proofs.lemmas.List.{length-map, take_at}
use Rattle.message_codec.specs.declared.parsed.Parsed.{Parsed}
use Rattle.admission.specs.Admission.{start_of}
use Rattle.admission.specs.Beside.{fresh}
use Rattle.admission.specs.Weighing.{IsTold, is_noted}
use Rattle.admission.proofs.BesideLaws.{all_fresh, found_all}
use Rattle.admission.proofs.beside.weigh_on.Goals as goal

pub weigh_each-requires-clause-fresh : goal.weigh_each-requires-clause-fresh
weigh_each-requires-clause-fresh g c = λ _ _. all_fresh c.args.recent.now c.in_ok-processed.processed
    c.args.wires c.as_mut_slice.result.now (c.as_mut_slice.ensures.value ∙ c.in_ok-slots.ensures)
    c.requires.sound
    (subst (λ (wires : List Parsed). All (λ wire. IsTold c.args.recent.now wire (is_noted c.in_ok-processed.processed wire)) wires) c.as_slice.ensures c.in_ok-processed.ensures)

pub returns : goal.returns
returns g c =
    let kept = c.weigh_each.auto.slots in
    let made = ap length c.in_ok-slots.ensures in
    let value = ap length c.as_mut_slice.ensures.value in
    let mapped : length (map fresh c.args.wires) ≡ length c.args.wires = simp length-map in
    let count : length c.weigh_each.new.slots ≡ length c.args.wires = omega (arith, kept, made, value, mapped) in
    let full : length c.weigh_each.new.slots ≡ c.in_ok-slots.slots.len = omega (arith, kept, c.as_mut_slice.ensures.len) in
    found_all (start_of c.args.recent.now c.args.accounts.now c.args.limits.now) c.args.wires c.as_mut_slice.result.now c.weigh_each.new.slots
    (take c.in_ok-slots.slots.len
    (c.weigh_each.new.slots ++ drop (length c.weigh_each.new.slots) c.in_ok-slots.slots.items))
    c.weighed_in.result (c.as_mut_slice.ensures.value ∙ c.in_ok-slots.ensures) count c.weigh_each.ensures
    (take_at c.weigh_each.new.slots (drop (length c.weigh_each.new.slots) c.in_ok-slots.slots.items) c.in_ok-slots.slots.len full) c.weighed_in.ensures
