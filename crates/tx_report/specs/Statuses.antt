-- How a transaction ended: as eight bytes of a record, and as a text (the project's own).
use Rattle.std.specs.Prelude.{ℕ, ◌<◌, ◌^◌, List, [], ◌∷◌, ◌++◌, codes, decimal, take, drop, slice_index, ◌&&◌, if◌then◌else◌, Option, Some, None, option_map, ok_or, Result, Ok, ◌==◌}
use Rattle.std.specs.Int.{w16, w32, to_le_bytes, from_le_bytes}
use Rattle.spec_base.specs.Reading.{◌>>=◌, place, field_at}
use Rattle.tx_report.specs.declared.cause.Cause.{Cause}
use Rattle.tx_report.specs.declared.cause.Cause.TheVariants.{Custom}
use Rattle.tx_report.specs.declared.status.Status.{Status}
use Rattle.tx_report.specs.declared.status.TheConstants.{WHOLE_TRANSACTION}
use Rattle.tx_report.specs.declared.status.Status.TheVariants.{Good, Failed, Dropped}
use Rattle.tx_report.specs.Causes.{code_of, name_of, cause_with, drop_code_of, drop_name_of, drop_cause_with}

-- kind, index, code and detail of a status, as they follow each other
abbrev pub part_bytes : ℕ → ℕ → ℕ → ℕ → List ℕ
part_bytes kind index code detail =
    kind ∷ index ∷ [] ++ to_le_bytes w16 code ++ to_le_bytes w32 detail

abbrev pub status_bytes_of : Status → List ℕ
status_bytes_of Good = part_bytes 0 0 0 0
status_bytes_of (Failed index cause detail) = part_bytes 1 index (code_of cause) detail
status_bytes_of (Dropped cause) = part_bytes 2 0 (drop_code_of cause) 0

-- index and detail fit their fields
abbrev pub IsStatus : Status → Type 0
IsStatus Good = Unit {0}
IsStatus (Failed index cause detail) = (index < 256) × (detail < 2 ^ 32)
IsStatus (Dropped cause) = Unit {0}

-- the status of these parts; a failed one may have any index and detail
abbrev pub status_with : ℕ → ℕ → ℕ → ℕ → Option Status
status_with kind index code detail =
    if kind == 0 && index == 0 && code == 0 && detail == 0 then Some Good else
    if kind == 1 then option_map (λ cause. Failed index cause detail) (cause_with code) else
    if kind == 2 && index == 0 && detail == 0
    then option_map (λ cause. Dropped cause) (drop_cause_with code) else
    None

-- the status of eight bytes
abbrev pub status_from : List ℕ → Option Status
status_from bytes =
    status_with (slice_index bytes 0) (slice_index bytes 1)
    (from_le_bytes w16 (take 2 (drop 2 bytes))) (from_le_bytes w32 (take 4 (drop 4 bytes)))

-- a field that is a status, refused at its own place where no status has these bytes
unfoldable pub status_at : {E : Type 0} → (ℕ → E) → (ℕ → E) → ℕ → List ℕ
    → Result (Status × List ℕ) E
status_at truncated refused total bytes = do
  field ← field_at truncated total 8 bytes
  status ← ok_or (status_from field.0) (refused (place total bytes))
  Ok (status, field.1)

-- a cause shows its detail only where it is the program's own error
abbrev pub cause_text_of : Cause → ℕ → List ℕ
cause_text_of Custom detail = codes "Custom(" ++ decimal detail ++ codes ")"
cause_text_of cause detail = name_of cause

-- what stands in the place of an instruction's index where a transaction failed as a whole
abbrev pub whole_transaction : ℕ
whole_transaction = WHOLE_TRANSACTION

-- which instruction failed
abbrev pub index_text_of : ℕ → List ℕ
index_text_of index = if index == whole_transaction then codes "transaction" else decimal index

abbrev pub status_text_of : Status → List ℕ
status_text_of Good = codes "Ok"
status_text_of (Failed index cause detail) =
    codes "Failed " ++ index_text_of index ++ codes " " ++ cause_text_of cause detail
status_text_of (Dropped cause) = codes "Dropped " ++ drop_name_of cause
