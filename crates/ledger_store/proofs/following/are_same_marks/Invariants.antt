use Rattle.ledger_store.proofs.MarkTests.{AreSameTo}
use Rattle.ledger_store.proofs.following.are_same_marks.Given as goal

abbrev pub invariant-loop-place : goal.invariant-loop-place
invariant-loop-place l = AreSameTo l.ones l.others l.place
