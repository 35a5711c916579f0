use Rattle.std.proofs.Common.{◌≡◌, take}
use Rattle.sol_base.specs.declared.key.Hash32.{Hash32}
use Rattle.status_cache.specs.Recent.{has_hash, has_name}
use Rattle.status_cache.proofs.among.sought_in.Given as goal

-- the hashes so far are noted
abbrev pub invariant-loop-hash : goal.invariant-loop-hash
invariant-loop-hash l =
    (hash : Hash32) → has_name l.sought hash ≡ has_hash (take l.hash-index l.fn.hashes) hash
