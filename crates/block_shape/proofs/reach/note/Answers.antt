use Rattle.std.proofs.Common.{◌∙◌, BTreeMap, get_or, ap}
use Rattle.sol_base.specs.declared.key.Key.{Key}
use Rattle.sol_base.specs.declared.lock.Lock.{Lock}
use Rattle.block_shape.specs.declared.reach.Reach.{Reach}
use Rattle.block_shape.specs.Holders.{reach_of, later}
use Rattle.block_shape.proofs.Laws.{no_lock, kind_is}
use Rattle.block_shape.proofs.HolderLaws.{noted, unnoted}
use Rattle.block_shape.proofs.reach.note.Goals as goal
use Rattle.block_shape.proofs.reach.note.Goals.{then-lock-write+in_ok-insert, else-lock-write}

pub loop-lock-preserved : goal.loop-lock-preserved
loop-lock-preserved c =
    let locks = c.args.locks.now in
    let i = c.loop-lock.lock-index in
    let lock : Lock = get_or locks i no_lock in
    elim c.if-lock-write.branch [
      | then-lock-write+in_ok-insert w ↦ λ key.
          ap (λ (m : BTreeMap Key Reach). reach_of m key) w.reaches-is
          ∙ noted locks i c.loop-lock-test.true c.args.write c.args.end c.args.place c.args.reaches.now c.loop-lock.reaches w.insert.new.self c.loop-lock.invariant
          (kind_is c.args.write lock ∙ w.if-lock-write.true) w.later-latest.result
          (w.later-latest.ensures ∙ ap (λ r. later r c.args.end c.args.place) w.reach_of.ensures) w.in_ok-insert.ensures.updates.0 key
      | else-lock-write w ↦ λ key.
          unnoted locks i c.loop-lock-test.true c.args.write c.args.end c.args.place c.args.reaches.now c.loop-lock.reaches c.if-lock-write.reaches c.loop-lock.invariant
          (kind_is c.args.write lock ∙ w.if-lock-write.false) w.reaches-is key
    ]
