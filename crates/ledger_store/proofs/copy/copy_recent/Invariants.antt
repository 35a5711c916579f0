use Rattle.std.proofs.Common.{◌≡◌, ◌≤◌, drop, length}
use Rattle.ledger_store.proofs.copy.copy_recent.Given as goal

-- the newest so many are still to be copied
abbrev pub invariant-loop-left : goal.invariant-loop-left
invariant-loop-left l = record { within : l.left ≤ length l.marks; same : l.copy ≡ drop l.left l.marks }

abbrev pub decreases-loop-left : goal.decreases-loop-left
decreases-loop-left l = l.left
