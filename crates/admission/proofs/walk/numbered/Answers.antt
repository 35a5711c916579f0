use Rattle.std.proofs.Common.{◌≤◌, ◌∙◌, Some, None, length, sym, append-nil, arith}
use Rattle.admission.proofs.WalkLaws.{numbered_all, numbered_more}
use Rattle.admission.proofs.walk.numbered.Goals as goal
use Rattle.admission.proofs.walk.numbered.Goals.{in-Some+in_ok-push, in_default}

pub loop-position-preserved : goal.loop-position-preserved
loop-position-preserved c = elim c.match-cause.branch [
  | in-Some+in_ok-push w ↦ numbered_more c.args.causes.now c.loop-position.position (Some w.in-Some.cause)
      c.loop-position.refused c.match-cause.refused c.loop-position-test.true (sym w.in-Some.is)
      c.loop-position.invariant
      (w.refused-is ∙ w.in_ok-push.ensures.ok)
  | in_default w ↦ numbered_more c.args.causes.now c.loop-position.position None c.loop-position.refused c.match-cause.refused c.loop-position-test.true (sym w.in_default.is) c.loop-position.invariant
      (w.refused-is ∙ sym (append-nil c.loop-position.refused))
]

pub returns : goal.returns
returns c =
    let over : length c.args.causes.now ≤ c.loop-position.position = omega arith in
    numbered_all c.args.causes.now c.loop-position.position c.loop-position.refused over c.loop-position.invariant
