use Rattle.std.proofs.Common.{List, ℕ, Option, drop, sym, ap, ◌∙◌, arith}
use Rattle.std.specs.Prelude.{option_map}
use Rattle.std.specs.Borrow.{Bor}
use Rattle.sbpf_asm.specs.Views.{operands_left}
use Rattle.asm_hints.specs.Hints.{operands_hint}
use Rattle.asm_hints.proofs.Steps.{last_left}
use Rattle.asm_hints.proofs.line.operands_hint.Goals as goal

pub returns-in-Some : goal.returns-in-Some
returns-in-Some c =
    let os = c.args.operands.now in
    let at = c.loop-at.at in
    last_left os at c.in-Some.field-0.now _ c.loop-at-test.false (omega (arith, c.loop-at.auto.at-end))
    (ap (λ (rest : Option (Bor (List ℕ))). operands_hint at (drop at os) (operands_left (option_map (λ text. text.now) rest))) (sym c.in-Some.is) ∙ c.loop-at.invariant)
