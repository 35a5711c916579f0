use Rattle.std.proofs.Common.{ℕ, ◌∙◌, BTreeMap, get_or, ap, max}
use Rattle.sol_base.specs.declared.key.Key.{Key}
use Rattle.sol_base.specs.declared.lock.Lock.{Lock}
use Rattle.block_shape.specs.Ends.{end_of}
use Rattle.block_shape.proofs.Laws.{no_lock, kind_is, noted, unnoted}
use Rattle.block_shape.proofs.ends.raise.Goals as goal
use Rattle.block_shape.proofs.ends.raise.Goals.{then-lock-write+in_ok-insert, else-lock-write}

pub loop-lock-preserved : goal.loop-lock-preserved
loop-lock-preserved c =
    let locks = c.args.locks.now in
    let i = c.loop-lock.lock-index in
    let lock : Lock = get_or locks i no_lock in
    elim c.if-lock-write.branch [
      | then-lock-write+in_ok-insert w ↦ λ key.
          ap (λ (m : BTreeMap Key ℕ). end_of m key) w.ends-is
          ∙ noted locks i c.loop-lock-test.true c.args.write c.args.end c.args.ends.now c.loop-lock.ends w.insert.new.self c.loop-lock.invariant
          (kind_is c.args.write lock ∙ w.if-lock-write.true) w.max-greatest.result
          (w.max-greatest.ensures ∙ ap (λ n. max n c.args.end) w.end_of.ensures) w.in_ok-insert.ensures.updates.0 key
      | else-lock-write w ↦ λ key.
          unnoted locks i c.loop-lock-test.true c.args.write c.args.end c.args.ends.now c.loop-lock.ends c.if-lock-write.ends c.loop-lock.invariant
          (kind_is c.args.write lock ∙ w.if-lock-write.false) w.ends-is key
    ]
