-- Instructions of the system program, by name, on accounts whose keys are derived from a base, a seed
-- and an owner (Solana).
use Rattle.std.specs.Prelude.{ℕ, ◌-◌, ◌^◌, List, [], ◌∷◌, ◌++◌, length, codes, bytes_eq, if◌then◌else◌, Ok}
use Rattle.std.specs.Int.{w32, w64, to_le_bytes}
use Rattle.spec_base.specs.Reading.{◌>>=◌}
use Rattle.serde_json.specs.Data.{Data}
use Rattle.sol_base.specs.declared.key.Key.{Key}
use Rattle.sol_base.specs.declared.key.TheConstants.{SYSTEM_PROGRAM}
use Rattle.sol_base.specs.Keys.{same_key}
use Rattle.tx_build.specs.declared.draft.AccountMeta.{AccountMeta}
use Rattle.tx_build.specs.declared.draft.KeyedInstruction.{KeyedInstruction}
use Rattle.json_parts.specs.Faults.{Read}
use Rattle.json_parts.specs.Parts.{number_in, member_in, known_in}
use Rattle.text_short.specs.declared.seeded.Derived.{Derived}
use Rattle.text_short.specs.Calls.{call, joined, signs_and_writes, signs, writes}
use Rattle.text_short.specs.Members.{text_in, key_in, no_such_instruction}

-- a text behind its length
abbrev pub sized_text : List ℕ → List ℕ
sized_text text = to_le_bytes w64 (length text) ++ text

-- what a key is derived from
unfoldable pub derived_in : Data → Read Derived
derived_in d = do
  base ← member_in (codes "base") key_in d
  text ← member_in (codes "seed") text_in d
  owner ← member_in (codes "owner") key_in d
  Ok (record { base = base; seed = sized_text text; owner = owner })

-- the base signs beside the payer, unless it is the payer
abbrev pub base_signs : Key → Key → List AccountMeta
base_signs from base = if same_key base from then [] else signs base ∷ []

-- the call that creates an account
unfoldable pub creation : Key → Key → Key → List ℕ → KeyedInstruction
creation from to base input =
    call SYSTEM_PROGRAM (signs_and_writes from ∷ writes to ∷ base_signs from base) input

unfoldable pub create_names : List (List ℕ)
create_names =
    codes "system" ∷ codes "from" ∷ codes "to" ∷ codes "base" ∷ codes "seed" ∷ codes "lamports"
    ∷ codes "space" ∷ codes "owner" ∷ []

unfoldable pub create_account_with_seed_in : Data → Read KeyedInstruction
create_account_with_seed_in d = do
  known ← known_in create_names d
  from ← member_in (codes "from") key_in d
  to ← member_in (codes "to") key_in d
  derived ← derived_in d
  lamports ← member_in (codes "lamports") (number_in 0 (2 ^ 64 - 1)) d
  space ← member_in (codes "space") (number_in 0 (2 ^ 64 - 1)) d
  Ok (creation from to derived.base
      (joined (to_le_bytes w32 3 ∷ derived.base.0 ∷ derived.seed ∷ to_le_bytes w64 lamports
      ∷ to_le_bytes w64 space ∷ derived.owner.0 ∷ [])))

unfoldable pub allocate_names : List (List ℕ)
allocate_names =
    codes "system" ∷ codes "account" ∷ codes "base" ∷ codes "seed" ∷ codes "space"
    ∷ codes "owner" ∷ []

unfoldable pub allocate_with_seed_in : Data → Read KeyedInstruction
allocate_with_seed_in d = do
  known ← known_in allocate_names d
  account ← member_in (codes "account") key_in d
  derived ← derived_in d
  space ← member_in (codes "space") (number_in 0 (2 ^ 64 - 1)) d
  Ok (call SYSTEM_PROGRAM (writes account ∷ signs derived.base ∷ [])
      (joined (to_le_bytes w32 9 ∷ derived.base.0 ∷ derived.seed ∷ to_le_bytes w64 space
      ∷ derived.owner.0 ∷ [])))

unfoldable pub assign_with_seed_in : Data → Read KeyedInstruction
assign_with_seed_in d = do
  known ← known_in
      (codes "system" ∷ codes "account" ∷ codes "base" ∷ codes "seed" ∷ codes "owner" ∷ []) d
  account ← member_in (codes "account") key_in d
  derived ← derived_in d
  Ok (call SYSTEM_PROGRAM (writes account ∷ signs derived.base ∷ [])
      (joined (to_le_bytes w32 10 ∷ derived.base.0 ∷ derived.seed ∷ derived.owner.0 ∷ [])))

unfoldable pub transfer_names : List (List ℕ)
transfer_names =
    codes "system" ∷ codes "from" ∷ codes "base" ∷ codes "seed" ∷ codes "owner" ∷ codes "to"
    ∷ codes "lamports" ∷ []

unfoldable pub transfer_with_seed_in : Data → Read KeyedInstruction
transfer_with_seed_in d = do
  known ← known_in transfer_names d
  from ← member_in (codes "from") key_in d
  derived ← derived_in d
  to ← member_in (codes "to") key_in d
  lamports ← member_in (codes "lamports") (number_in 0 (2 ^ 64 - 1)) d
  Ok (call SYSTEM_PROGRAM (writes from ∷ signs derived.base ∷ writes to ∷ [])
      (joined (to_le_bytes w32 11 ∷ to_le_bytes w64 lamports ∷ derived.seed ∷ derived.owner.0 ∷ [])))

-- those that set what an account is
unfoldable pub set_with_seed : List ℕ → Data → Read KeyedInstruction
set_with_seed name d =
    if bytes_eq (codes "AllocateWithSeed") name then allocate_with_seed_in d else
    (if bytes_eq (codes "AssignWithSeed") name then assign_with_seed_in d else
    no_such_instruction (codes "system"))

-- those that move lamports, and the others
unfoldable pub paid_with_seed : List ℕ → Data → Read KeyedInstruction
paid_with_seed name d =
    if bytes_eq (codes "CreateAccountWithSeed") name then create_account_with_seed_in d else
    (if bytes_eq (codes "TransferWithSeed") name then transfer_with_seed_in d else
    set_with_seed name d)
