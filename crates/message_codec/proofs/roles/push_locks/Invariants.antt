use Rattle.std.proofs.Common.{◌≡◌, ◌++◌, map, take}
use Rattle.std.specs.List.{enumerate_from}
use Rattle.message_codec.specs.Roles.{lock_of}
use Rattle.message_codec.proofs.roles.push_locks.Given as goal

-- the locks of the keys so far
abbrev pub invariant-loop-offset : goal.invariant-loop-offset
invariant-loop-offset l = l.locks ≡ l.fn.locks ++ map (lock_of l.message l.loaded) (enumerate_from l.first (take l.offset l.keys))
