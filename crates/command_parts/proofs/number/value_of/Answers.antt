use Rattle.std.proofs.Common.{rules, ◌≡◌, ◌<◌, ◌^◌, true, length, inl, inr}
use Rattle.std.specs.List.{list_all}
use Rattle.std.specs.Char.{is_ascii_digit}
use Rattle.std.specs.Str.Parse.{digits_value}
use Rattle.std.proofs.lemmas.Str.Parse.{IsNumeralModel, numerals_by_value, parse_digits}
use Rattle.std.proofs.lemmas.Bool.{and_parts, cases_lt, ltb-true}
use Rattle.command_parts.proofs.number.value_of.Goals as goal

own : IsNumeralModel (λ ds. list_all is_ascii_digit ds ≡ true) (digits_value 10)
own = numerals_by_value _ (search rules)

pub returns-in-Ok : goal.returns-in-Ok
returns-in-Ok c =
    let digits = (and_parts _ _ c.requires).0 in
    let read = rw c.in-Ok.is at (parse_digits own 64 c.args.text.now c.parse.result c.parse.ensures.value.0 digits) in
    read.1

pub returns-in-Err : goal.returns-in-Err
returns-in-Err c =
    let parts = and_parts _ _ c.requires in
    let some : 0 < length c.args.text.now = ltb-true _ _ (and_parts _ _ parts.1).0 in
    let none = rw c.in-Err.is at (parse_digits own 64 c.args.text.now c.parse.result c.parse.ensures.value.0 parts.0) in
    elim (cases_lt (digits_value 10 c.args.text.now) (2 ^ 64)) [
      | inl small ↦ absurd (none (some, small))
      | inr large ↦ large
    ]
