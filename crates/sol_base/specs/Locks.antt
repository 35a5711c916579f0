-- The locks of a transaction.
use Rattle.std.specs.Prelude.{List, filter, map}
use Rattle.sol_base.specs.declared.key.Key.{Key}
use Rattle.sol_base.specs.declared.lock.Lock.{Lock}

-- the keys of locks, in their order
abbrev pub lock_keys : List Lock → List Key
lock_keys locks = map (λ lock. lock.key) locks

-- the keys of the locks for writing
abbrev pub written_keys : List Lock → List Key
written_keys locks = lock_keys (filter (λ lock. lock.write) locks)
