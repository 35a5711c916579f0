use Rattle.std.proofs.Common.{◌≡◌, ℕ, true, sym, ◌∙◌, arith}
use Rattle.std.proofs.lemmas.Bool.Decides.{nat_tests}
use Rattle.std.specs.Char.{is_ascii_digit}
use Rattle.sbpf_asm.specs.Words.{is_hex_digit}
use Rattle.sbpf_asm.proofs.Clean.{weaker}
use Rattle.sbpf_asm.proofs.number.decimal_of.Goals as goal

hexadecimal : (c : ℕ) → is_ascii_digit c ≡ true → is_hex_digit c ≡ true
hexadecimal c h = grind (arith, nat_tests)

pub value_of-requires-clause-digits : goal.value_of-requires-clause-digits
value_of-requires-clause-digits c = weaker is_ascii_digit is_hex_digit hexadecimal c.args.text.now (sym c.are_decimal_digits.ensures ∙ c.if-are_decimal_digits.true)
