use Rattle.std.proofs.Common.{◌≡◌, ◌+◌, ◌≤◌, length}
use Rattle.sbpf_asm.specs.Lines.{lines_of}
use Rattle.asm_hints.specs.Hints.{line_of_slot}
use Rattle.asm_hints.proofs.place.line_of_slot.Given as goal

abbrev pub invariant-loop-rest : goal.invariant-loop-rest
invariant-loop-rest l = record {
  same : line_of_slot l.left l.before (lines_of l.rest) ≡ line_of_slot l.fn.slot 0 (lines_of l.text);
  few : l.before + length l.rest ≤ length l.text;
}

abbrev pub decreases-loop-rest : goal.decreases-loop-rest
decreases-loop-rest l = length l.rest
