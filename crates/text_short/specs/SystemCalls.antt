-- Instructions of the system program by name (Solana): which accounts sign and are written, and the
-- fields of the input.
use Rattle.std.specs.Prelude.{ℕ, ◌-◌, ◌^◌, List, [], ◌∷◌, codes, bytes_eq, if◌then◌else◌, Ok}
use Rattle.std.specs.Int.{w32, w64, to_le_bytes}
use Rattle.spec_base.specs.Reading.{◌>>=◌}
use Rattle.serde_json.specs.Data.{Data}
use Rattle.sol_base.specs.declared.key.TheConstants.{SYSTEM_PROGRAM}
use Rattle.tx_build.specs.declared.draft.KeyedInstruction.{KeyedInstruction}
use Rattle.json_parts.specs.Faults.{Read}
use Rattle.json_parts.specs.Parts.{number_in, member_in, known_in, one_of}
use Rattle.text_short.specs.Calls.{call, joined, signs_and_writes, writes}
use Rattle.text_short.specs.Members.{text_in, key_in}
use Rattle.text_short.specs.SeededCalls.{paid_with_seed}

unfoldable pub create_account_in : Data → Read KeyedInstruction
create_account_in d = do
  known ← known_in
      (codes "system" ∷ codes "from" ∷ codes "to" ∷ codes "lamports" ∷ codes "space"
      ∷ codes "owner" ∷ []) d
  from ← member_in (codes "from") key_in d
  to ← member_in (codes "to") key_in d
  lamports ← member_in (codes "lamports") (number_in 0 (2 ^ 64 - 1)) d
  space ← member_in (codes "space") (number_in 0 (2 ^ 64 - 1)) d
  owner ← member_in (codes "owner") key_in d
  Ok (call SYSTEM_PROGRAM (signs_and_writes from ∷ signs_and_writes to ∷ [])
      (joined (to_le_bytes w32 0 ∷ to_le_bytes w64 lamports ∷ to_le_bytes w64 space ∷ owner.0 ∷ [])))

unfoldable pub assign_in : Data → Read KeyedInstruction
assign_in d = do
  known ← known_in (codes "system" ∷ codes "account" ∷ codes "owner" ∷ []) d
  account ← member_in (codes "account") key_in d
  owner ← member_in (codes "owner") key_in d
  Ok (call SYSTEM_PROGRAM (signs_and_writes account ∷ [])
      (joined (to_le_bytes w32 1 ∷ owner.0 ∷ [])))

unfoldable pub transfer_in : Data → Read KeyedInstruction
transfer_in d = do
  known ← known_in (codes "system" ∷ codes "from" ∷ codes "to" ∷ codes "lamports" ∷ []) d
  from ← member_in (codes "from") key_in d
  to ← member_in (codes "to") key_in d
  lamports ← member_in (codes "lamports") (number_in 0 (2 ^ 64 - 1)) d
  Ok (call SYSTEM_PROGRAM (signs_and_writes from ∷ writes to ∷ [])
      (joined (to_le_bytes w32 2 ∷ to_le_bytes w64 lamports ∷ [])))

unfoldable pub allocate_in : Data → Read KeyedInstruction
allocate_in d = do
  known ← known_in (codes "system" ∷ codes "account" ∷ codes "space" ∷ []) d
  account ← member_in (codes "account") key_in d
  space ← member_in (codes "space") (number_in 0 (2 ^ 64 - 1)) d
  Ok (call SYSTEM_PROGRAM (signs_and_writes account ∷ [])
      (joined (to_le_bytes w32 8 ∷ to_le_bytes w64 space ∷ [])))

unfoldable pub system_named : List ℕ → Data → Read KeyedInstruction
system_named name d =
    if bytes_eq (codes "CreateAccount") name then create_account_in d else
    (if bytes_eq (codes "Assign") name then assign_in d else
    (if bytes_eq (codes "Transfer") name then transfer_in d else
    (if bytes_eq (codes "Allocate") name then allocate_in d else paid_with_seed name d)))

-- no others are read
unfoldable pub system_names : List (List ℕ)
system_names =
    codes "CreateAccount" ∷ codes "Assign" ∷ codes "Transfer" ∷ codes "Allocate" ∷ codes "CreateAccountWithSeed" ∷ codes "TransferWithSeed" ∷ codes "AllocateWithSeed" ∷ codes "AssignWithSeed" ∷ []

-- the instruction that the member `system` names
unfoldable pub system_in : Data → Read KeyedInstruction
system_in d = do
  name ← member_in (codes "system") text_in d
  listed ← one_of (codes "system") system_names name
  system_named name d
