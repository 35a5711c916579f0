-- The keys of a set that hashes them.
use Rattle.std.specs.Prelude.{List, map}
use Rattle.sol_base.specs.declared.key.Key.{Key}
use Rattle.lock_table.specs.declared.hashed.HashedKey.{HashedKey}

-- they, in the order in which the set keeps them
abbrev pub keys_in : List HashedKey → List Key
keys_in keys = map (λ key. key.0) keys
