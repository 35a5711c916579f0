use Rattle.std.proofs.Common.{◌-◌, ◌≤◌, vec_len}
use Rattle.bank_core.proofs.numbering.slots_of.Given as goal

abbrev pub invariant-loop-slots : goal.invariant-loop-slots
invariant-loop-slots l = vec_len l.slots ≤ l.count

abbrev pub decreases-loop-slots : goal.decreases-loop-slots
decreases-loop-slots l = l.count - vec_len l.slots
