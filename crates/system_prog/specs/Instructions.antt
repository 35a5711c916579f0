-- The instructions of the system program as bytes (Solana; that those of nonces are not there is
-- the project's own): a tag, fields, and bytes that are ignored.
use Rattle.std.specs.Prelude.{ℕ, ◌==◌, List, length, Result, Ok, Err, if◌then◌else◌}
use Rattle.std.specs.Int.{w32, w64}
use Rattle.std.specs.Str.{is_utf8}
use Rattle.spec_base.specs.Reading.{◌>>=◌, ok_if, field_at, number_at}
use Rattle.format_fields.specs.Fields.{key_at}
use Rattle.system_prog.specs.declared.fault.SystemFault.{SystemFault}
use Rattle.system_prog.specs.declared.fault.SystemFault.TheVariants.{InvalidInstruction}
use Rattle.system_prog.specs.declared.instruction.Instruction.{Instruction}
use Rattle.system_prog.specs.declared.instruction.Instruction.TheVariants.{CreateAccount, Assign, Transfer, CreateAccountWithSeed, Allocate, AllocateWithSeed, AssignWithSeed, TransferWithSeed}

-- a field that is cut short is refused in one way, wherever it stands
abbrev pub invalid : ℕ → SystemFault
invalid place = InvalidInstruction

-- a text: the number of its bytes, and the bytes, which are UTF-8
unfoldable pub text_at : ℕ → List ℕ → Result (List ℕ × List ℕ) SystemFault
text_at total bytes = do
  count ← number_at invalid w64 total bytes
  text ← field_at invalid total count.0 count.1
  ok_if (is_utf8 text.0) InvalidInstruction text

-- the fields of each instruction, in their order
unfoldable pub create_account_at : ℕ → List ℕ → Result Instruction SystemFault
create_account_at total bytes = do
  lamports ← number_at invalid w64 total bytes
  space ← number_at invalid w64 total lamports.1
  owner ← key_at invalid total space.1
  Ok (CreateAccount lamports.0 space.0 owner.0)

unfoldable pub assign_at : ℕ → List ℕ → Result Instruction SystemFault
assign_at total bytes = do
  owner ← key_at invalid total bytes
  Ok (Assign owner.0)

unfoldable pub transfer_at : ℕ → List ℕ → Result Instruction SystemFault
transfer_at total bytes = do
  lamports ← number_at invalid w64 total bytes
  Ok (Transfer lamports.0)

unfoldable pub create_account_with_seed_at : ℕ → List ℕ → Result Instruction SystemFault
create_account_with_seed_at total bytes = do
  base ← key_at invalid total bytes
  seed ← text_at total base.1
  lamports ← number_at invalid w64 total seed.1
  space ← number_at invalid w64 total lamports.1
  owner ← key_at invalid total space.1
  Ok (CreateAccountWithSeed base.0 seed.0 lamports.0 space.0 owner.0)

unfoldable pub allocate_at : ℕ → List ℕ → Result Instruction SystemFault
allocate_at total bytes = do
  space ← number_at invalid w64 total bytes
  Ok (Allocate space.0)

unfoldable pub allocate_with_seed_at : ℕ → List ℕ → Result Instruction SystemFault
allocate_with_seed_at total bytes = do
  base ← key_at invalid total bytes
  seed ← text_at total base.1
  space ← number_at invalid w64 total seed.1
  owner ← key_at invalid total space.1
  Ok (AllocateWithSeed base.0 seed.0 space.0 owner.0)

unfoldable pub assign_with_seed_at : ℕ → List ℕ → Result Instruction SystemFault
assign_with_seed_at total bytes = do
  base ← key_at invalid total bytes
  seed ← text_at total base.1
  owner ← key_at invalid total seed.1
  Ok (AssignWithSeed base.0 seed.0 owner.0)

unfoldable pub transfer_with_seed_at : ℕ → List ℕ → Result Instruction SystemFault
transfer_with_seed_at total bytes = do
  lamports ← number_at invalid w64 total bytes
  seed ← text_at total lamports.1
  owner ← key_at invalid total seed.1
  Ok (TransferWithSeed lamports.0 seed.0 owner.0)

-- the instruction of a tag, by the bytes after it
unfoldable pub tagged : ℕ → ℕ → List ℕ → Result Instruction SystemFault
tagged tag total bytes =
    if tag == 0 then create_account_at total bytes else
    if tag == 1 then assign_at total bytes else
    if tag == 2 then transfer_at total bytes else
    if tag == 3 then create_account_with_seed_at total bytes else
    if tag == 8 then allocate_at total bytes else
    if tag == 9 then allocate_with_seed_at total bytes else
    if tag == 10 then assign_with_seed_at total bytes else
    if tag == 11 then transfer_with_seed_at total bytes else
    Err InvalidInstruction

-- the instruction that the data spell
unfoldable pub instruction_in : List ℕ → Result Instruction SystemFault
instruction_in input = do
  tag ← number_at invalid w32 (length input) input
  tagged tag.0 (length input) tag.1
