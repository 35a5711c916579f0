use Rattle.std.proofs.Common.{ℕ, List, Option, drop, ap, sym, ◌∙◌}
use Rattle.std.specs.Prelude.{option_map}
use Rattle.std.specs.Borrow.{Bor}
use Rattle.sbpf_asm.specs.Rows.{Draft, with_operands}
use Rattle.sbpf_asm.specs.Views.{draft_view, operands_left}
use Rattle.sbpf_asm.proofs.Drafts.{no_operand, too_many}
use Rattle.sbpf_asm.proofs.draft.draft_of.Goals as goal

pub returns-in_err-first_operand : goal.returns-in_err-first_operand
returns-in_err-first_operand c =
    let none = sym c.first_operand.ensures ∙ ap (option_map (λ text. text.now)) c.in_err-first_operand.was in
    ap (option_map draft_view) c.from_residual.ensures
    ∙ sym (no_operand c.operands_of-operand-items.result.now c.loop-operand.operand-index _ _ c.loop-operand-test.true none)
    ∙ c.loop-operand.invariant

pub returns-in-Some : goal.returns-in-Some
returns-in-Some c =
    let os = c.operands_of-operand-items.result.now in
    let at = c.loop-operand.operand-index in
    let draft : Draft = record { instruction = c.loop-operand.draft.0; target = option_map (λ name. name.now) c.loop-operand.draft.1.0 } in
    sym (too_many os at c.in-Some.field-0.now draft c.loop-operand-test.false)
    ∙ ap (λ (rest : Option (Bor (List ℕ))). with_operands (drop at os) (operands_left (option_map (λ text. text.now) rest)) draft) (sym c.in-Some.is)
    ∙ c.loop-operand.invariant
