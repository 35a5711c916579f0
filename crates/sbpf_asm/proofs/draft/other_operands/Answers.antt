use Rattle.std.proofs.Common.{List, ℕ, Option, sym, ap, ◌∙◌}
use Rattle.std.specs.Prelude.{option_map}
use Rattle.std.specs.Borrow.{Bor}
use Rattle.sbpf_asm.specs.Views.{cut_view, operands_left}
use Rattle.sbpf_asm.specs.Rows.{behind_first}
use Rattle.sbpf_asm.proofs.Drafts.{behind_cut}
use Rattle.sbpf_asm.proofs.draft.other_operands.Goals as goal

pub returns : goal.returns
returns c =
    behind_cut c.in_ok-rest.field-0.now _ (cut_view c.cut_at.result) c.cut_at.ensures c.text_behind.ensures
    ∙ ap (λ (rest : Option (Bor (List ℕ))). behind_first (operands_left (option_map (λ text. text.now) rest))) (sym c.in_ok-rest.was)
