use Rattle.std.proofs.Common.{◌≡◌, false, take}
use Rattle.status_cache.specs.Recent.{processed}
use Rattle.status_cache.proofs.recent.Recent.was_processed.Given as goal

-- none of the blocks so far processed the message
abbrev pub invariant-loop-mark : goal.invariant-loop-mark
invariant-loop-mark l = processed (take l.mark-index l.mark-items) l.message ≡ false
