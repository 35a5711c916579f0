-- Instructions of the compute budget program by name (Solana).
use Rattle.std.specs.Prelude.{ℕ, ◌-◌, ◌^◌, List, [], ◌∷◌, codes, bytes_eq, if◌then◌else◌, Ok}
use Rattle.std.specs.Int.{w32, w64, to_le_bytes}
use Rattle.spec_base.specs.Reading.{◌>>=◌}
use Rattle.serde_json.specs.Data.{Data}
use Rattle.sol_base.specs.declared.key.TheConstants.{COMPUTE_BUDGET_PROGRAM}
use Rattle.tx_build.specs.declared.draft.KeyedInstruction.{KeyedInstruction}
use Rattle.json_parts.specs.Faults.{Read}
use Rattle.json_parts.specs.Parts.{number_in, member_in, known_in, one_of}
use Rattle.text_short.specs.Calls.{call, joined}
use Rattle.text_short.specs.Members.{text_in, no_such_instruction}

-- a tag and a number of four bytes, which the member of that name is
unfoldable pub numbered_in : ℕ → List ℕ → Data → Read KeyedInstruction
numbered_in tag name d = do
  known ← known_in (codes "budget" ∷ name ∷ []) d
  number ← member_in name (number_in 0 (2 ^ 32 - 1)) d
  Ok (call COMPUTE_BUDGET_PROGRAM [] (joined ((tag ∷ []) ∷ to_le_bytes w32 number ∷ [])))

-- a tag and a price
unfoldable pub price_in : Data → Read KeyedInstruction
price_in d = do
  known ← known_in (codes "budget" ∷ codes "micro_lamports" ∷ []) d
  price ← member_in (codes "micro_lamports") (number_in 0 (2 ^ 64 - 1)) d
  Ok (call COMPUTE_BUDGET_PROGRAM [] (joined ((3 ∷ []) ∷ to_le_bytes w64 price ∷ [])))

-- those that ask for bytes
unfoldable pub size_named : List ℕ → Data → Read KeyedInstruction
size_named name d =
    if bytes_eq (codes "RequestHeapFrame") name then numbered_in 1 (codes "bytes") d else
    (if bytes_eq (codes "SetLoadedAccountsDataSizeLimit") name then numbered_in 4 (codes "bytes") d
    else no_such_instruction (codes "budget"))

unfoldable pub budget_named : List ℕ → Data → Read KeyedInstruction
budget_named name d =
    if bytes_eq (codes "SetComputeUnitLimit") name then numbered_in 2 (codes "units") d else
    (if bytes_eq (codes "SetComputeUnitPrice") name then price_in d else size_named name d)

-- no others are read
unfoldable pub budget_names : List (List ℕ)
budget_names =
    codes "SetComputeUnitLimit" ∷ codes "SetComputeUnitPrice" ∷ codes "RequestHeapFrame" ∷ codes "SetLoadedAccountsDataSizeLimit" ∷ []

-- the instruction that the member `budget` names
unfoldable pub budget_in : Data → Read KeyedInstruction
budget_in d = do
  name ← member_in (codes "budget") text_in d
  listed ← one_of (codes "budget") budget_names name
  budget_named name d
