use Rattle.std.proofs.Common.{◌≤◌, take, subst, arith, All}
use Rattle.std.proofs.lemmas.List.{take_all}
use Rattle.std.proofs.lemmas.List.Elements.{All-more}
use Rattle.sol_base.specs.declared.lock.Lock.{Lock}
use Rattle.block_shape.specs.Ends.{held_until}
use Rattle.block_shape.proofs.Laws.{no_lock}
use Rattle.block_shape.proofs.ends.latest.Goals as goal

pub loop-lock-preserved : goal.loop-lock-preserved
loop-lock-preserved c =
    let written = c.args.written.now in
    let read = c.args.read.now in
    let most = c.max-latest.ensures in
    let is = c.held_until.ensures in
    let so_far : All (λ (lock : Lock). held_until written read lock ≤ c.max-latest.result)
    (take c.loop-lock.lock-index c.args.locks.now) = λ k d l. let u = c.loop-lock.invariant.above k d l
    in omega (arith, u, most) in
    record {
      above = All-more (λ (lock : Lock). held_until written read lock ≤ c.max-latest.result) c.args.locks.now c.loop-lock.lock-index no_lock c.loop-lock-test.true so_far (omega (arith, most, is));
      least = λ time all. let a = c.loop-lock.invariant.least time all in let b = all c.loop-lock.lock-index no_lock c.loop-lock-test.true in omega (arith, most, is, a, b);
    }

pub returns-clause-above : goal.returns-clause-above
returns-clause-above c =
    subst (All (λ (lock : Lock). held_until c.args.written.now c.args.read.now lock ≤ c.loop-lock.latest))
    (take_all c.loop-lock.lock-index c.args.locks.now c.loop-lock-test.false) c.loop-lock.invariant.above
