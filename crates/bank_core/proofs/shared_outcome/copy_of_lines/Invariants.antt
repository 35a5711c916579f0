use Rattle.std.proofs.Common.{◌≡◌, take}
use Rattle.bank_core.proofs.shared_outcome.copy_of_lines.Given as goal

-- the lines so far
abbrev pub invariant-loop-line : goal.invariant-loop-line
invariant-loop-line l = l.copy ≡ take l.line-index l.lines
