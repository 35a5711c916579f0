use Rattle.std.proofs.Common.{◌≡◌, ◌+◌, ◌≤◌, length}
use Rattle.sbpf_asm.specs.Lines.{lines_of}
use Rattle.asm_hints.specs.Hints.{same_hint}
use Rattle.asm_hints.proofs.place.same_hint.Given as goal

abbrev pub invariant-loop-code : goal.invariant-loop-code
invariant-loop-code l = record {
  same : same_hint l.before l.code (lines_of l.rest) ≡ same_hint 0 l.code (lines_of l.text);
  few : l.before + length l.rest ≤ length l.text;
}

abbrev pub decreases-loop-code : goal.decreases-loop-code
decreases-loop-code l = length l.rest
