-- What the data of an instruction of the loader ask for: a tag and its fields (the project's own).
use Rattle.std.specs.Prelude.{ℕ, ◌==◌, Bool, true, false, List, length, Result, Ok, Err, if◌then◌else◌}
use Rattle.std.specs.Int.{w32, w64}
use Rattle.spec_base.specs.Reading.{◌>>=◌, field_at, number_at}
use Rattle.sol_base.specs.declared.key.Key.{Key}
use Rattle.format_fields.specs.Fields.{key_at}
use Rattle.loader_prog.specs.declared.fault.LoaderFault.{LoaderFault}
use Rattle.loader_prog.specs.declared.fault.LoaderFault.TheVariants.{InvalidInstruction, OutOfMemory as no_memory}
use Rattle.loader_prog.specs.declared.instruction.Instruction.{Instruction}
use Rattle.loader_prog.specs.declared.instruction.Instruction.TheVariants.{Init as AsInit, Write as AsWrite, Finalize as AsFinalize, SetAuthority as AsSetAuthority}

-- out of memory, which no input shows
abbrev pub is_loader_memory : LoaderFault → Bool
is_loader_memory no_memory = true
is_loader_memory _ = false

pub data Request : Type 0 where
  -- a blank account becomes a buffer of the authority
  Init : Key → Request
  -- bytes are written into a buffer, from that place of its image on
  Write : ℕ → List ℕ → Request
  -- a buffer with a verified image becomes final
  Finalize : Request
  -- a buffer is given to another authority
  SetAuthority : Key → Request

-- what an instruction asks for
abbrev pub request_as : Instruction → Request
request_as (AsInit authority) = Init authority
request_as (AsWrite offset bytes) = Write offset bytes.now
request_as AsFinalize = Finalize
request_as (AsSetAuthority authority) = SetAuthority authority

-- data that end within a field are no instruction, wherever that is
abbrev pub cut : ℕ → LoaderFault
cut at = InvalidInstruction

unfoldable pub init_at : ℕ → List ℕ → Result Request LoaderFault
init_at total bytes = do
  authority ← key_at cut total bytes
  Ok (Init authority.0)

unfoldable pub write_at : ℕ → List ℕ → Result Request LoaderFault
write_at total bytes = do
  offset ← number_at cut w32 total bytes
  len ← number_at cut w64 total offset.1
  piece ← field_at cut total len.0 len.1
  Ok (Write offset.0 piece.0)

unfoldable pub set_authority_at : ℕ → List ℕ → Result Request LoaderFault
set_authority_at total bytes = do
  authority ← key_at cut total bytes
  Ok (SetAuthority authority.0)

-- the fields after a tag
abbrev pub fields_at : ℕ → ℕ → List ℕ → Result Request LoaderFault
fields_at tag total bytes =
    if tag == 0 then init_at total bytes else
    if tag == 1 then write_at total bytes else
    if tag == 2 then Ok Finalize else
    if tag == 3 then set_authority_at total bytes else
    Err InvalidInstruction

-- What the data ask for, or the refusal. Bytes after the fields are ignored.
unfoldable pub request_in : List ℕ → Result Request LoaderFault
request_in input = do
  tag ← number_at cut w32 (length input) input
  fields_at tag.0 (length input) tag.1

-- how many accounts a request names
abbrev pub accounts_needed : Request → ℕ
accounts_needed (Init authority) = 1
accounts_needed _ = 2
