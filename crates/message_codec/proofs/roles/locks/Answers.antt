use Rattle.std.proofs.Common.{refl}
use Rattle.message_codec.specs.Roles.{lock_of}
use Rattle.message_codec.proofs.LockLaws.{numbered_parts}
use Rattle.message_codec.proofs.roles.locks.Goals as goal

pub returns : goal.returns
returns c =
    numbered_parts (lock_of c.args.message.now c.args.loaded.now) c.as_slice-keys.result.now c.as_slice-writable.result.now c.as_slice-readonly.result.now
    c.args.message.now.keys c.args.loaded.now.writable c.args.loaded.now.readonly _ _
    c.in_ok-locks.locks c.push_locks.new.locks c.push_locks-2.new.locks c.push_locks-3.new.locks
    c.as_slice-keys.ensures c.as_slice-writable.ensures c.as_slice-readonly.ensures c.in_ok-locks.ensures refl refl
    c.in_ok-push_locks.ensures c.in_ok-push_locks-2.ensures c.in_ok-push_locks-3.ensures
