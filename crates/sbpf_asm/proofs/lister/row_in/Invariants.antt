use Rattle.std.proofs.Common.{◌≡◌, drop, map}
use Rattle.std.specs.Prelude.{find}
use Rattle.sbpf_asm.specs.Rows.{is_row_of}
use Rattle.sbpf_asm.specs.Views.{row_view}
use Rattle.sbpf_asm.proofs.lister.row_in.Given as goal

abbrev pub invariant-loop-row : goal.invariant-loop-row
invariant-loop-row l = find (is_row_of l.i) (map row_view (drop l.row-index l.rows)) ≡ find (is_row_of l.i) (map row_view l.rows)
