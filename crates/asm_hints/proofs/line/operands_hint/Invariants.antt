use Rattle.std.proofs.Common.{◌≡◌, drop}
use Rattle.std.specs.Prelude.{option_map}
use Rattle.sbpf_asm.specs.Lines.{operands_of as texts_of}
use Rattle.sbpf_asm.specs.Views.{operands_left}
use Rattle.asm_hints.specs.Hints.{operands_hint}
use Rattle.asm_hints.proofs.line.operands_hint.Given as goal

abbrev pub invariant-loop-at : goal.invariant-loop-at
invariant-loop-at l = operands_hint l.at (drop l.at l.operands) (operands_left (option_map (λ text. text.now) l.rest)) ≡ operands_hint 0 l.operands (texts_of l.text)
