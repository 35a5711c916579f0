use Rattle.std.proofs.Common.{◌<◌, length, get_or, ◌∙◌, arith}
use Rattle.lock_chains.proofs.Passing.{no_lock, Steps, step_written, step_read}
use Rattle.lock_chains.proofs.chains.pass_locks.Goals as goal
use Rattle.lock_chains.proofs.chains.pass_locks.Goals.{then-lock, else-lock+in_ok-push_at}

pub loop-lock-preserved : goal.loop-lock-preserved
loop-lock-preserved c =
    let k = c.loop-lock.lock-index in
    let lock = get_or c.args.locks.now k no_lock in
    let in_last = c.requires.last k no_lock c.loop-lock-test.true in
    let in_readers = c.requires.readers k no_lock c.loop-lock-test.true in
    let same_last = c.loop-lock.auto.last in
    let same_readers = c.loop-lock.auto.readers in
    let still_last = c.if-lock.auto.last in
    let still_readers = c.if-lock.auto.readers in
    let a : lock.number < length c.loop-lock.last = omega (arith, in_last, same_last) in
    let b : lock.number < length c.loop-lock.readers = omega (arith, in_readers, same_readers) in
    let step : Steps c.args.locks.now k c.args.position c.loop-lock.last c.if-lock.last c.loop-lock.readers c.if-lock.readers =
    elim c.if-lock.branch [
      | then-lock w ↦ step_written c.args.locks.now k c.args.position c.loop-lock.last _ c.loop-lock.readers _
          c.requires.once c.loop-lock-test.true a b w.if-lock.true w.last-is (w.readers-is ∙ w.clear_at.ensures)
      | else-lock+in_ok-push_at w ↦ step_read c.args.locks.now k c.args.position c.loop-lock.last _
          c.loop-lock.readers _ c.requires.once c.loop-lock-test.true b w.if-lock.false w.last-is
          (w.readers-is ∙ w.in_ok-push_at.ensures.ok)
    ] in
    record {
      writers = λ n l. step.writers n ∙ c.loop-lock.invariant.writers n (omega (arith, l, still_last));
      readers = λ n l. step.readers n ∙ c.loop-lock.invariant.readers n (omega (arith, l, still_readers));
    }
