use Rattle.std.proofs.Common.{ℕ, List, ◌++◌, ap, sym, ◌∙◌}
use Rattle.std.proofs.lemmas.List.{append-nil}
use Rattle.std.proofs.lemmas.Result.{on_ok_weaker, on_err_weaker}
use Rattle.format_fields.proofs.output.BlobOutput.append.Goals as goal

pub returns-clause-ok : goal.returns-clause-ok
returns-clause-ok c = on_ok_weaker c.append.result (λ e. record { after = λ taken h. e ∙ ap (λ (l : List ℕ). l ++ c.args.piece.now) h }) c.append.ensures.ok

pub returns-clause-err : goal.returns-clause-err
returns-clause-err c = on_err_weaker c.append.result (λ e. record { after = λ taken h. e ∙ h ∙ sym (append-nil taken) }) c.append.ensures.err
