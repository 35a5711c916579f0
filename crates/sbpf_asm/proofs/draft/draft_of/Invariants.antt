use Rattle.std.proofs.Common.{◌≡◌, Some, drop}
use Rattle.std.specs.Prelude.{option_map}
use Rattle.sbpf_asm.specs.Rows.{Draft, draft_of, with_operands}
use Rattle.sbpf_asm.specs.Lines.{operands_of}
use Rattle.sbpf_asm.specs.Views.{operands_left, row_view}
use Rattle.sbpf_asm.proofs.draft.draft_of.Given as goal

abbrev pub invariant-loop-operand : goal.invariant-loop-operand
invariant-loop-operand l =
    let row = row_view l.row in
    let draft : Draft = record { instruction = l.draft.0; target = option_map (λ name. name.now) l.draft.1.0 } in
    with_operands (drop l.operand-index l.operand-items) (operands_left (option_map (λ text. text.now) l.rest)) draft ≡ draft_of (Some row) (operands_of l.operands)
