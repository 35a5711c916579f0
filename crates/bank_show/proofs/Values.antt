-- The values of a record as JSON: their texts, and that none is a floating point number.
use Rattle.std.proofs.Common.{◌≡◌, ℕ, zero, suc, ◌<◌, ◌^◌, nat_lt, Bool, true, false, List, [], ◌∷◌, ◌++◌, length, map, codes, decimal, refl, ◌∙◌, get_or, All, IsUtf8, nat_eq, arith, Result, Ok, Err, IfOk}
use Rattle.std.proofs.lemmas.Str.{IsUtf8-from_ascii, IsUtf8-append}
use Rattle.std.proofs.lemmas.Fmt.{IsAscii-decimal}
use Rattle.std.specs.Str.{IsAscii}
use Rattle.std.specs.List.{list_all}
use Rattle.std.proofs.lemmas.Bool.{and_parts, ltb-true}
use Rattle.serde_json.specs.Data.{Data, string}
use Rattle.serde_json.specs.View.{items_of}
use Rattle.serde_json.specs.Written.{has_float, items_have_float, compact_text}
use Rattle.block_record.specs.declared.block.Entry.{Entry}
use Rattle.block_record.specs.declared.block.Block.{Block}
use Rattle.tx_report.specs.declared.cause.Cause.{Cause}
use Rattle.tx_report.specs.declared.cause.Cause.TheVariants as cause
use Rattle.tx_report.specs.declared.cause.DropCause.{DropCause}
use Rattle.tx_report.specs.declared.cause.DropCause.TheVariants.{PayerAbsent}
use Rattle.tx_report.specs.declared.status.Status.{Status}
use Rattle.tx_report.specs.declared.status.Status.TheVariants.{Good, Failed, Dropped}
use Rattle.tx_report.specs.Statuses.{IsStatus, cause_text_of, index_text_of, status_text_of}
use Rattle.tx_report.specs.Causes.{name_of, drop_name_of}
use Rattle.bank_show.specs.Show.{entry_json, block_json, text_of_entry, text_of_block}

-- ---- texts

-- a line of an entry
pub text_at : (lines : List (List ℕ)) (i : ℕ) (line bytes : List ℕ) → i < length lines → All IsUtf8 lines → line ≡ get_or lines i line → bytes ≡ line → IsUtf8 bytes
text_at lines i line bytes h all is same = rw (same, is) (all i line h)

-- the lines of an entry
pub lines_at : (entries : List Entry) (i : ℕ) (entry : Entry) → i < length entries → All (λ (e : Entry). All IsUtf8 e.lines) entries → entry ≡ get_or entries i entry → All IsUtf8 entry.lines
lines_at entries i entry h all is = rw is (all i entry h)

abbrev is_ascii : List ℕ → Bool
is_ascii bytes = list_all (λ b. nat_lt b 128) bytes

ascii_at : (bytes : List ℕ) → is_ascii bytes ≡ true → IsAscii bytes
ascii_at [] e i = omega arith
ascii_at (b ∷ bytes) e zero = ltb-true b 128 (and_parts (nat_lt b 128) (is_ascii bytes) e).0
ascii_at (b ∷ bytes) e (suc i) = ascii_at bytes (and_parts (nat_lt b 128) (is_ascii bytes) e).1 i

plain : (bytes : List ℕ) → is_ascii bytes ≡ true → IsUtf8 bytes
plain bytes e = IsUtf8-from_ascii bytes (ascii_at bytes e)

cause_is_plain : (cause : Cause) → is_ascii (name_of cause) ≡ true
cause_is_plain cause.Custom = refl
cause_is_plain _ = refl

drop_is_plain : (cause : DropCause) → is_ascii (drop_name_of cause) ≡ true
drop_is_plain PayerAbsent = refl
drop_is_plain _ = refl

decimal_is_text : (n : ℕ) → n < 2 ^ 64 → IsUtf8 (decimal n)
decimal_is_text n h = IsUtf8-from_ascii (decimal n) (IsAscii-decimal n h)

index_is_text : (index : ℕ) → index < 2 ^ 64 → IsUtf8 (index_text_of index)
index_is_text index h = go (nat_eq index 255) refl
  where
    go : (b : Bool) → nat_eq index 255 ≡ b → IsUtf8 (index_text_of index)
    go true e = rw e (plain (codes "transaction") refl)
    go false e = rw e (decimal_is_text index h)

detail_is_text : (cause : Cause) (detail : ℕ) → detail < 2 ^ 64 → IsUtf8 (cause_text_of cause detail)
detail_is_text cause.Custom detail h =
    IsUtf8-append (codes "Custom(") (decimal detail ++ codes ")") (plain (codes "Custom(") refl)
    (IsUtf8-append (decimal detail) (codes ")") (decimal_is_text detail h) (plain (codes ")") refl))
detail_is_text cause detail h = plain (name_of cause) (cause_is_plain cause)

status_texts : (status : Status) → IsStatus status → IsUtf8 (status_text_of status)
status_texts Good fits = plain (codes "Ok") refl
status_texts (Failed index cause detail) fits =
    let which = IsUtf8-append (index_text_of index) (codes " ") (index_is_text index (omega (arith, fits.0))) (plain (codes " ") refl) in
    IsUtf8-append (codes "Failed ") (index_text_of index ++ codes " " ++ cause_text_of cause detail) (plain (codes "Failed ") refl)
    (IsUtf8-append (index_text_of index ++ codes " ") (cause_text_of cause detail) which (detail_is_text cause detail (omega (arith, fits.1))))
status_texts (Dropped cause) fits =
    IsUtf8-append (codes "Dropped ") (drop_name_of cause) (plain (codes "Dropped ") refl) (plain (drop_name_of cause) (drop_is_plain cause))

-- the text of a status
pub status_is_text : (status : Status) (bytes : List ℕ) → IsStatus status → bytes ≡ status_text_of status → IsUtf8 bytes
status_is_text status bytes fits same = rw same (status_texts status fits)

-- ---- no floating point number

no_float_lines : (lines : List (List ℕ)) → items_have_float (items_of (map string lines)) ≡ false
no_float_lines [] = refl
no_float_lines (line ∷ lines) = no_float_lines lines

no_float_entries : (entries : List Entry) → items_have_float (items_of (map entry_json entries)) ≡ false
no_float_entries [] = refl
no_float_entries (entry ∷ entries) = rw (no_float_lines entry.lines, no_float_entries entries) refl

pub no_float : (block : Block) → has_float (block_json block) ≡ false
no_float block = rw (no_float_entries block.entries) refl

-- the text of a block's value
pub text_of_value : {E : Type 0} (result : Result (List ℕ) E) (bytes : List ℕ) (block : Block) (value : Data)
    → IfOk result (λ text. text ≡ bytes) → value ≡ block_json block
    → (has_float value ≡ false → bytes ≡ compact_text value) → IfOk result (λ text. text ≡ text_of_block block)
text_of_value (Ok text) bytes block value copied same written = copied ∙ (rw same at written) (no_float block)
text_of_value (Err e) bytes block value copied same written = tt

no_float_entry : (entry : Entry) → has_float (entry_json entry) ≡ false
no_float_entry entry = rw (no_float_lines entry.lines) refl

-- the text of an entry's value
pub text_of_entry_value : {E : Type 0} (result : Result (List ℕ) E) (bytes : List ℕ) (entry : Entry)
    (value : Data) → IfOk result (λ text. text ≡ bytes) → value ≡ entry_json entry
    → (has_float value ≡ false → bytes ≡ compact_text value) → IfOk result (λ text. text ≡ text_of_entry entry)
text_of_entry_value (Ok text) bytes entry value copied same written = copied ∙ (rw same at written) (no_float_entry entry)
text_of_entry_value (Err e) bytes entry value copied same written = tt
