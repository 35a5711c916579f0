use Rattle.std.proofs.Common.{◌++◌, ◌+◌, ◌-◌, ◌/◌, ℕ, List, length, sym, ap, ◌∙◌}
use Rattle.std.specs.List.{flat_map, range_with_len}
use Rattle.sbpf_asm.specs.Listing.{slot_line}
use Rattle.sbpf_asm.proofs.Lists.{range_step}
use Rattle.sbpf_asm.proofs.lister.append_instructions.Goals as goal

pub loop-place-preserved : goal.loop-place-preserved
loop-place-preserved c =
    let text = c.args.text.now in
    let at = c.loop-place.place in
    ap (λ (out : List ℕ). out ++ flat_map (slot_line text) (range_with_len (at + 1) (length text / 8 - (at + 1)))) c.in_ok-append_slot.ensures
    ∙ sym (range_step (slot_line text) c.loop-place.out at (length text / 8) c.loop-place-test.true)
    ∙ c.loop-place.invariant
