use Rattle.std.proofs.Common.{◌≡◌, ◌∙◌, ℕ, true, false, BTreeMap, ap, arith, subst}
use Rattle.std.specs.Prelude.{nat_lt}
use Rattle.std.proofs.lemmas.Bool.{lt-ltb, le-ltb}
use Rattle.sol_base.specs.declared.key.Key.{Key}
use Rattle.sol_base.specs.declared.lock.Lock.{Lock}
use Rattle.block_shape.specs.declared.waits.Wait.{Wait}
use Rattle.block_shape.specs.Ends.{held_until}
use Rattle.block_shape.specs.Waits.{counted, wait_of}
use Rattle.block_shape.proofs.WaitLaws.{noted, unnoted}
use Rattle.block_shape.proofs.waits.count_at.Goals as goal
use Rattle.block_shape.proofs.waits.count_at.Goals.{then-held_until-gt0+in_ok-insert, else-held_until-gt0}

pub loop-lock-preserved : goal.loop-lock-preserved
loop-lock-preserved c =
    let locks = c.args.locks.now in
    let i = c.loop-lock.lock-index in
    let held = λ (lock : Lock). nat_lt 0 (held_until c.args.written.now c.args.read.now lock) in
    elim c.if-held_until-gt0.branch [
      | then-held_until-gt0+in_ok-insert w ↦ λ key.
          ap (λ (m : BTreeMap Key Wait). wait_of m key) w.waits-is
          ∙ noted held locks i c.loop-lock-test.true c.args.place c.args.waits.now c.loop-lock.waits w.insert.new.self c.loop-lock.invariant
          (subst (λ (n : ℕ). nat_lt 0 n ≡ true) c.held_until.ensures (lt-ltb 0 c.held_until.result (omega (arith, w.if-held_until-gt0.true)))) w.counted-wait.result
          (w.counted-wait.ensures ∙ ap (λ (r : Wait). counted r c.args.place) w.wait_of.ensures) w.in_ok-insert.ensures.updates.0 key
      | else-held_until-gt0 w ↦ λ key.
          unnoted held locks i c.loop-lock-test.true c.args.place c.args.waits.now c.loop-lock.waits c.if-held_until-gt0.waits c.loop-lock.invariant
          (subst (λ (n : ℕ). nat_lt 0 n ≡ false) c.held_until.ensures (le-ltb 0 c.held_until.result (omega (arith, w.if-held_until-gt0.false)))) w.waits-is key
    ]
