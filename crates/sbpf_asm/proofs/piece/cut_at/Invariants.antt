use Rattle.std.proofs.Common.{◌≡◌, true, not, take}
use Rattle.std.specs.List.{list_all}
use Rattle.sbpf_asm.specs.Views.{is_mark}
use Rattle.sbpf_asm.proofs.piece.cut_at.Given as goal

abbrev pub invariant-loop-at : goal.invariant-loop-at
invariant-loop-at l = list_all (λ b. not (is_mark l.mark b)) (take l.at l.text) ≡ true
