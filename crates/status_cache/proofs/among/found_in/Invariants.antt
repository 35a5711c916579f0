use Rattle.std.proofs.Common.{◌≡◌, ◌&&◌, take}
use Rattle.sol_base.specs.declared.key.Hash32.{Hash32}
use Rattle.status_cache.specs.Recent.{has_name, processed}
use Rattle.status_cache.proofs.among.found_in.Given as goal

-- those among the messages of the blocks so far are found
abbrev pub invariant-loop-mark : goal.invariant-loop-mark
invariant-loop-mark l =
    (hash : Hash32) → has_name l.found hash ≡ (has_name l.fn.sought hash && processed (take l.mark-index l.fn.marks) hash)
