use Rattle.std.proofs.Common.{◌≡◌, drop, map}
use Rattle.std.specs.Prelude.{find}
use Rattle.std.specs.Str.{bytes_eq}
use Rattle.sbpf_asm.specs.Rows.{row_of}
use Rattle.sbpf_asm.specs.Views.{row_view}
use Rattle.sbpf_asm.proofs.row.row_of.Given as goal

abbrev pub invariant-loop-row : goal.invariant-loop-row
invariant-loop-row l = find (λ r. bytes_eq r.mnemonic l.mnemonic) (map row_view (drop l.row-index l.row-items)) ≡ row_of l.mnemonic
