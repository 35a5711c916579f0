use Rattle.std.proofs.Common.{◌≡◌, ◌+◌, ◌*◌, ◌≤◌, length}
use Rattle.sbpf_asm.specs.Assembly.{with_lines}
use Rattle.sbpf_asm.specs.Lines.{lines_of}
use Rattle.sbpf_asm.specs.Views.{source_view}
use Rattle.sbpf_asm.proofs.source.Source.add_lines.Given as goal

abbrev pub invariant-loop-rest : goal.invariant-loop-rest
invariant-loop-rest l = record {
  same : with_lines (l.number + 1) (source_view l.self) (lines_of l.rest) ≡ with_lines 1 (source_view l.fn.self) (lines_of l.fn.text);
  few : l.number + length l.rest ≤ length l.fn.text;
  slots : l.self.slots ≤ 2 * l.number;
}

abbrev pub decreases-loop-rest : goal.decreases-loop-rest
decreases-loop-rest l = length l.rest
