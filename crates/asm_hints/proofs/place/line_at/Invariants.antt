use Rattle.std.proofs.Common.{◌≡◌, ◌-◌, [], get_or}
use Rattle.sbpf_asm.specs.Lines.{lines_of}
use Rattle.asm_hints.specs.Hints.{line_in}
use Rattle.asm_hints.proofs.place.line_at.Given as goal

abbrev pub invariant-loop-at : goal.invariant-loop-at
invariant-loop-at l = get_or (lines_of l.rest) (l.number - l._at) [] ≡ line_in l.number (lines_of l.text)
