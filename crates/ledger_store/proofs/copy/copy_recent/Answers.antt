use Rattle.std.proofs.Common.{◌≡◌, ◌≤◌, ◌+◌, ◌-◌, List, ◌∷◌, length, take, drop, sym, ap, ◌∙◌, arith, length-drop, take_all}
use Rattle.std.proofs.lemmas.List.{drop_more}
use Rattle.status_cache.specs.declared.recent.Mark.{Mark}
use Rattle.status_cache.specs.Recent.{max_marks}
use Rattle.ledger_store.proofs.copy.copy_recent.Goals as goal

pub loop-left-preserved : goal.loop-left-preserved
loop-left-preserved c =
    let marks = c.marks-marks.result.now in
    let i = c.loop-left.left - 1 in
    let one = c.index-marks-left.result in
    let within : i + 1 ≤ length marks = omega (arith, c.loop-left.invariant.within, c.loop-left-test.true) in
    let next : c.loop-left.left ≡ i + 1 = omega (arith, c.loop-left-test.true) in
    let more : drop i marks ≡ one ∷ drop c.loop-left.left marks = drop_more marks i one (omega (arith, within))
    ∙ ap (λ (m : Mark). m ∷ drop (i + 1) marks) (sym c.index-marks-left.is)
    ∙ ap (λ n. one ∷ drop n marks) (sym next) in
    record {
      within = omega (arith, within);
      same =
          c.in_ok-advance.ensures.ok
          ∙ ap (λ (m : Mark). take max_marks (m ∷ c.loop-left.copy)) c.in_ok-copy_mark.ensures
          ∙ ap (λ (l : List Mark). take max_marks (one ∷ l)) c.loop-left.invariant.same
          ∙ ap (λ (l : List Mark). take max_marks l) (sym more)
          ∙ take_all max_marks (drop i marks) (omega (arith, length-drop i marks, c.marks-marks.ensures.recent.few));
    }
