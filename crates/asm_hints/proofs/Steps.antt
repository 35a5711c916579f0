-- Operands that are looked at one by one.
use Rattle.std.proofs.Common.{◌≡◌, ℕ, ◌≤◌, List, drop, length, Option, Some, sym, ap, ◌∙◌, arith}
use Rattle.std.proofs.lemmas.List.{drop_all}
use Rattle.sbpf_asm.specs.declared.row.Operand.{Operand}
use Rattle.sbpf_asm.specs.Words.{Text}
use Rattle.sbpf_asm.specs.Views.{operands_left}
use Rattle.sbpf_asm.proofs.Drafts.{operands_cut}
use Rattle.asm_hints.specs.declared.hint.Hint.{Hint}
use Rattle.asm_hints.specs.declared.hint.Hint.TheVariants.{End}
use Rattle.asm_hints.specs.Hints.{end_hint, operands_hint}

-- a text that is left behind all operands
pub last_left : (os : List Operand) (i : ℕ) (text : Text) (all : Option Hint) → length os ≤ i → i ≤ length os
    → operands_hint i (drop i os) (operands_left (Some text)) ≡ all → Some (End (length os)) ≡ all
last_left os i text all h k e =
    let n : length os ≡ i = omega arith in
    rw n (sym (ap (λ (kinds : List Operand). operands_hint i kinds (operands_left (Some text))) (drop_all i os h) ∙ ap (end_hint i) (operands_cut text))) ∙ e
