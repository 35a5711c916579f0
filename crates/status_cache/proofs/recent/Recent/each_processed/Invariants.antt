use Rattle.std.proofs.Common.{◌≡◌, ◌&&◌, take}
use Rattle.sol_base.specs.declared.key.Hash32.{Hash32}
use Rattle.status_cache.specs.Recent.{has_hash, has_name, processed}
use Rattle.status_cache.proofs.recent.Recent.each_processed.Given as goal

-- those of the messages so far that were processed are found
abbrev pub invariant-loop-message : goal.invariant-loop-message
invariant-loop-message l =
    (hash : Hash32) → has_name l.found hash ≡ (has_hash (take l.message-index l.fn.messages) hash && processed l.fn.self hash)
