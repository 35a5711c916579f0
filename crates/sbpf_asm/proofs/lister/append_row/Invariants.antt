use Rattle.std.proofs.Common.{◌≡◌, ◌++◌, drop, map}
use Rattle.sbpf_asm.specs.Rows.{operand_text, operands_text, row_text}
use Rattle.sbpf_asm.specs.Views.{row_view}
use Rattle.sbpf_asm.proofs.lister.append_row.Given as goal

abbrev pub invariant-loop-operand : goal.invariant-loop-operand
invariant-loop-operand l = l.out ++ operands_text l.parting (map (operand_text l.i) (drop l.operand-index l.operand-items)) ≡ l.fn.out ++ row_text (row_view l.row) l.i
