-- The names of causes, and what a log says in place of a line, are texts.
use Rattle.std.proofs.Common.{◌≡◌, ◌++◌, ℕ, true, codes, decimal, refl, IsUtf8}
use Rattle.std.proofs.lemmas.Str.{IsUtf8-append}
use Rattle.spec_base.proofs.PlainTexts.{decimal_text, is_plain, words_text}
use Rattle.tx_report.specs.Causes.{name_of}
use Rattle.tx_report.specs.Statuses.{cause_text_of}
use Rattle.tx_report.specs.declared.cause.Cause.{Cause}
use Rattle.tx_report.specs.declared.cause.Cause.TheVariants as cause

name_plain : (c : Cause) → is_plain (name_of c) ≡ true
name_plain cause.Custom = refl
name_plain _ = refl

pub cause_text : (c : Cause) (detail : ℕ) → IsUtf8 (cause_text_of c detail)
cause_text cause.Custom detail =
    IsUtf8-append (codes "Custom(") (decimal detail ++ codes ")") (words_text (codes "Custom(") refl)
    (IsUtf8-append (decimal detail) (codes ")") (decimal_text detail) (words_text (codes ")") refl))
cause_text c detail = words_text (name_of c) (name_plain c)
