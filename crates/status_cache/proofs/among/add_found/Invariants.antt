use Rattle.std.proofs.Common.{◌≡◌, ◌||◌, ◌&&◌, take}
use Rattle.sol_base.specs.declared.key.Hash32.{Hash32}
use Rattle.status_cache.specs.Recent.{has_hash, has_name}
use Rattle.status_cache.proofs.among.add_found.Given as goal

-- those among the messages so far are added
abbrev pub invariant-loop-message : goal.invariant-loop-message
invariant-loop-message l =
    (hash : Hash32) → has_name l.found hash ≡ (has_name l.fn.found hash || (has_name l.fn.sought hash && has_hash (take l.message-index l.fn.messages) hash))
