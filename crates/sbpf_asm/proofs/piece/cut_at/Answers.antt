use Rattle.std.proofs.Common.{◌+◌, Some, sym, ap, ◌∙◌, take, get_or}
use Rattle.std.proofs.lemmas.List.{take_rest}
use Rattle.sbpf_asm.specs.Words.{Text, Cut}
use Rattle.sbpf_asm.specs.Views.{is_mark}
use Rattle.sbpf_asm.proofs.Pieces.{cut_found, cut_nowhere}
use Rattle.sbpf_asm.proofs.piece.cut_at.Goals as goal

pub returns-then-is_mark : goal.returns-then-is_mark
returns-then-is_mark c =
    let text = c.args.text.now in
    let at = c.loop-at.at in
    let rest : Text → Cut = λ (t : Text). record { front = take at text; rest = Some (get_or text at 0, t) } in
    ap rest (take_rest text (at + 1)) ∙ sym (cut_found (is_mark c.args.mark) text at c.loop-at-test.true c.loop-at.invariant (sym c.is_mark.ensures ∙ c.if-is_mark.true))

pub returns : goal.returns
returns c = sym (cut_nowhere (is_mark c.args.mark) c.args.text.now c.loop-at.at c.loop-at-test.false c.loop-at.invariant)
