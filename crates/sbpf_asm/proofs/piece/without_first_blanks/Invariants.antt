use Rattle.std.proofs.Common.{◌≡◌, drop}
use Rattle.sbpf_asm.specs.Words.{without_first_blanks}
use Rattle.sbpf_asm.proofs.piece.without_first_blanks.Given as goal

abbrev pub invariant-loop-at : goal.invariant-loop-at
invariant-loop-at l = without_first_blanks (drop l.at l.text) ≡ without_first_blanks l.text
