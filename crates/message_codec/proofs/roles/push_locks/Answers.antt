use Rattle.std.proofs.Common.{[]}
use Rattle.message_codec.specs.Roles.{lock_of}
use Rattle.message_codec.proofs.LockLaws.{numbered_more}
use Rattle.message_codec.proofs.roles.push_locks.Goals as goal

pub loop-offset-preserved : goal.loop-offset-preserved
loop-offset-preserved c =
    numbered_more (lock_of c.args.message.now c.args.loaded.now) c.args.first c.loop-offset.offset c.args.keys.now (record { 0 = [] })
    c.args.locks.now c.loop-offset.locks c.push.new.self c.lock_of.result c.loop-offset-test.true c.lock_of.ensures c.loop-offset.invariant c.in_ok-push.ensures.ok
