use Rattle.std.proofs.Common.{◌+◌, ◌<◌, ◌++◌, ◌∷◌, [], List, ℕ, length, sum_by, true, sym, ap, ◌∙◌, arith}
use Rattle.tx_report.specs.LogLines.{Log, with_line, max_log_bytes}
use Rattle.tx_report.proofs.LogLaws.{with_line-full}
use Rattle.tx_report.proofs.logs.Logs.add_line.Goals as goal

pub returns-in_ok-push-2-clause-ok : goal.returns-in_ok-push-2-clause-ok
returns-in_ok-push-2-clause-ok c =
    let log : Log = record { lines = c.self.inside.lines; truncated = c.self.inside.truncated } in
    let counted = c.self.invariant.1 c.if-self.false in
    let over = c.if-len-self.false in
    let full : max_log_bytes < sum_by length log.lines + length c.args.line = omega arith in
    let text = c.in_ok-from_slice.ensures in
    ap (λ (lines : List (List ℕ)). let l : Log = record { lines = lines; truncated = true } in l) (c.in_ok-push-2.ensures.ok ∙ ap (λ (t : List ℕ). log.lines ++ t ∷ []) text)
    ∙ sym (with_line-full log c.args.line c.if-self.false full)
    ∙ ap (λ (l : Log). with_line l c.args.line) c.self.view_is
