use Rattle.std.proofs.Common.{add-one, ◌≡◌, true, false, sym, arith}
use Rattle.ledger_store.specs.Marks.{same_mark}
use Rattle.ledger_store.proofs.MarkTests.{other_here, same_next}
use Rattle.ledger_store.proofs.following.are_same_marks.Goals as goal

pub returns-then-not-is_same_mark : goal.returns-then-not-is_same_mark
returns-then-not-is_same_mark c =
    let differs : same_mark c.index-ones-place.result c.index-others-place.result ≡ false = cc in
    sym (other_here c.args.ones.now c.args.others.now c.loop-place.place c.index-ones-place.result
    c.index-others-place.result (omega arith) c.loop-place-test.true c.index-ones-place.is
    c.index-others-place.is differs)

pub loop-place-preserved : goal.loop-place-preserved
loop-place-preserved c =
    let same : same_mark c.index-ones-place.result c.index-others-place.result ≡ true = cc in
    rw add-one (same_next c.args.ones.now c.args.others.now c.loop-place.place c.index-ones-place.result
    c.index-others-place.result (omega arith) c.loop-place-test.true c.index-ones-place.is
    c.index-others-place.is c.loop-place.invariant same)
