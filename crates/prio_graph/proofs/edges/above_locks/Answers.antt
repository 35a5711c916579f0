use Rattle.std.proofs.Common.{◌<◌, take, subst, arith, All}
use Rattle.std.proofs.lemmas.List.{take_all}
use Rattle.std.proofs.lemmas.List.Elements.{All-more}
use Rattle.lock_table.specs.declared.locks.NumberedLock.{NumberedLock}
use Rattle.lock_chains.proofs.Passing.{no_lock}
use Rattle.prio_graph.proofs.edges.above_locks.Goals as goal

pub loop-lock-preserved : goal.loop-lock-preserved
loop-lock-preserved c =
    let most = c.max-above.ensures in
    let so_far : All (λ (lock : NumberedLock). lock.number < c.max-above.result)
    (take c.loop-lock.lock-index c.args.locks.now) = λ k d l. let u = c.loop-lock.invariant.1 k d l
    in omega (arith, u, most) in
    (omega (arith, most), All-more (λ (lock : NumberedLock). lock.number < c.max-above.result) c.args.locks.now c.loop-lock.lock-index no_lock c.loop-lock-test.true so_far (omega (arith, most)))

pub returns-clause-above : goal.returns-clause-above
returns-clause-above c =
    subst (All (λ (lock : NumberedLock). lock.number < c.loop-lock.above)) (take_all c.loop-lock.lock-index c.args.locks.now c.loop-lock-test.false) c.loop-lock.invariant.1
