use Rattle.std.proofs.Common.{◌≡◌, drop}
use Rattle.asm_hints.specs.Hints.{byte_hint}
use Rattle.asm_hints.proofs.line.byte_hint.Given as goal

abbrev pub invariant-loop-at : goal.invariant-loop-at
invariant-loop-at l = byte_hint l.at (drop l.at l.line) ≡ byte_hint 0 l.line
