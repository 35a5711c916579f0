use Rattle.std.proofs.Common.{◌≡◌, ◌≤◌, ◌*◌, ◌^◌, ℕ, arith, ap₂, get_or, take}
use Rattle.std.specs.Char.{digit_value}
use Rattle.std.specs.Str.Parse.{digits_value}
use Rattle.std.proofs.lemmas.Int.Digits.{digits_value_more}
use Rattle.sbpf_asm.specs.Words.{is_hex_digit}
use Rattle.sbpf_asm.proofs.Digits.{all_get, hex_digit_below, one_more, sixteen_more, sixteen_most}
use Rattle.sbpf_asm.proofs.number.value_of.Goals as goal

pub overflow_mul-value : goal.overflow_mul-value
overflow_mul-value c =
    let at = c.loop-digit.digit-index in
    let few : c.from.result ≤ 16 = omega (arith, c.from.ensures, c.requires.radix) in
    omega (arith, sixteen_most at (omega arith), one_more c.loop-digit.value c.from.result 0 (16 ^ at) c.loop-digit.invariant.below few (omega arith))

pub overflow_add-value : goal.overflow_add-value
overflow_add-value c =
    let at = c.loop-digit.digit-index in
    let few : c.from.result ≤ 16 = omega (arith, c.from.ensures, c.requires.radix) in
    let digit = get_or c.args.text.now at 0 in
    let below = hex_digit_below digit (all_get is_hex_digit c.args.text.now at c.requires.digits c.loop-digit-test.true) in
    omega (
      arith,
      sixteen_most at (omega arith),
      one_more c.loop-digit.value c.from.result (digit_value digit) (16 ^ at) c.loop-digit.invariant.below few below,
      c.from-in-loop-digit.ensures,
      c.digit_value.ensures,
    )

pub loop-digit-preserved : goal.loop-digit-preserved
loop-digit-preserved c =
    let text = c.args.text.now in
    let at = c.loop-digit.digit-index in
    let few : c.from.result ≤ 16 = omega (arith, c.from.ensures, c.requires.radix) in
    let digit = get_or text at 0 in
    let below = hex_digit_below digit (all_get is_hex_digit text at c.requires.digits c.loop-digit-test.true) in
    let product : c.loop-digit.value * c.from.result ≡ digits_value c.args.radix (take at text) * c.args.radix = ap₂ (λ (x y : ℕ). x * y) c.loop-digit.invariant.value c.from.ensures in
    record {
      value = omega (arith, product, digits_value_more c.args.radix text at c.loop-digit-test.true, c.from-in-loop-digit.ensures, c.digit_value.ensures);
      below = omega (
        arith,
        sixteen_more at,
        one_more c.loop-digit.value c.from.result (digit_value digit) (16 ^ at) c.loop-digit.invariant.below few below,
        c.from-in-loop-digit.ensures,
        c.digit_value.ensures,
      );
    }

pub returns-clause-below : goal.returns-clause-below
returns-clause-below c = omega (arith, sixteen_most c.loop-digit.digit-index (omega arith), c.loop-digit.invariant.below)
