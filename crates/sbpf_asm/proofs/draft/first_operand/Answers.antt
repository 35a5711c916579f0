use Rattle.std.proofs.Common.{List, ℕ, Option, sym, ap, ◌∙◌}
use Rattle.std.specs.Prelude.{option_map}
use Rattle.std.specs.Borrow.{Bor}
use Rattle.sbpf_asm.specs.Views.{cut_view, operands_left}
use Rattle.sbpf_asm.specs.Rows.{first_of}
use Rattle.sbpf_asm.proofs.Drafts.{first_cut}
use Rattle.sbpf_asm.proofs.draft.first_operand.Goals as goal

pub returns : goal.returns
returns c =
    first_cut c.in_ok-rest.field-0.now c.trim.result.now (cut_view c.cut_at.result) c.cut_at.ensures c.trim.ensures
    ∙ ap (λ (rest : Option (Bor (List ℕ))). first_of (operands_left (option_map (λ text. text.now) rest))) (sym c.in_ok-rest.was)
