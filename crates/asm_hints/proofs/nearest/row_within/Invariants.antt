use Rattle.std.proofs.Common.{◌≡◌, drop, map}
use Rattle.std.specs.Prelude.{find}
use Rattle.sbpf_asm.specs.Views.{row_view}
use Rattle.asm_hints.specs.Hints.{is_near}
use Rattle.asm_hints.proofs.nearest.row_within.Given as goal

abbrev pub invariant-loop-row : goal.invariant-loop-row
invariant-loop-row l = find (is_near l.most l.word) (map row_view (drop l.row-index l.rows)) ≡ find (is_near l.most l.word) (map row_view l.rows)
