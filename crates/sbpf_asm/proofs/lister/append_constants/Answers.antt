use Rattle.std.proofs.Common.{◌++◌, ◌+◌, ◌-◌, ℕ, List, sym, ap, ◌∙◌}
use Rattle.std.specs.List.{flat_map, range_with_len}
use Rattle.sbpf_asm.specs.Listing.{constant_line}
use Rattle.sbpf_asm.proofs.Lists.{range_step}
use Rattle.sbpf_asm.proofs.lister.append_constants.Goals as goal

pub loop-line-preserved : goal.loop-line-preserved
loop-line-preserved c =
    let bytes = c.args.constants.now in
    let at = c.loop-line.line in
    let end = c.div_ceil-line-end.result in
    ap (λ (out : List ℕ). out ++ flat_map (constant_line bytes) (range_with_len (at + 1) (end - (at + 1)))) c.in_ok-append_constant_line.ensures
    ∙ sym (range_step (constant_line bytes) c.loop-line.out at end c.loop-line-test.true)
    ∙ c.loop-line.invariant
