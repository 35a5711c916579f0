-- Reading a transaction from left to right, with the first refusal that is met.
use Rattle.std.specs.Prelude.{ℕ, ◌==◌, List, [], ◌∷◌, length, Result, Ok, Err, Bool, true, false, nat_lt, slice_index, if◌then◌else◌}
use Rattle.spec_base.specs.Reading.{◌>>=◌, place, field_at, byte_at, read_as, many, whole}
use Rattle.sol_base.specs.declared.key.Key.{Key}
use Rattle.format_fields.specs.Fields.{key_at, hash_at}
use Rattle.format_fields.specs.Lengths as Lengths
use Rattle.message_codec.specs.declared.fault.WireFault.{WireFault}
use Rattle.message_codec.specs.declared.fault.WireFault.TheVariants.{TooLong, Truncated, BadLength, Version, Trailing, OutOfMemory}
use Rattle.message_codec.specs.declared.message.Signature.{Signature}
use Rattle.message_codec.specs.declared.message.Header.{Header}
use Rattle.message_codec.specs.declared.message.Instruction.{Instruction}
use Rattle.message_codec.specs.declared.message.MessageKind.{MessageKind}
use Rattle.message_codec.specs.declared.message.MessageKind.TheVariants.{Legacy, Zero}
use Rattle.message_codec.specs.declared.message.Lookup.{Lookup}
use Rattle.message_codec.specs.declared.message.Message.{Message}
use Rattle.message_codec.specs.declared.message.Tx.{Tx}
use Rattle.message_codec.specs.Wire.{max_wire_len}

abbrev pub is_wire_memory : WireFault → Bool
is_wire_memory TooLong = false
is_wire_memory (Truncated _) = false
is_wire_memory (BadLength _) = false
is_wire_memory (Version _) = false
is_wire_memory (Trailing _) = false
is_wire_memory OutOfMemory = true

-- what the wire holds at the front of the bytes that are left
abbrev pub Read : Type 0 → Type 0
Read X = Result (X × List ℕ) WireFault

-- a compact length, refused at its first byte
abbrev pub third_at : ℕ → ℕ → List ℕ → Read ℕ
third_at at low bytes = Lengths.third_at Truncated BadLength at low bytes

abbrev pub second_at : ℕ → ℕ → List ℕ → Read ℕ
second_at at low bytes = Lengths.second_at Truncated BadLength at low bytes

abbrev pub first_at : ℕ → List ℕ → Read ℕ
first_at at bytes = Lengths.first_at Truncated BadLength at bytes

unfoldable pub compact_at : ℕ → List ℕ → Read ℕ
compact_at total bytes = first_at (place total bytes) bytes

-- a compact array
unfoldable pub array_at : {X : Type 0} → (ℕ → List ℕ → Read X) → ℕ → List ℕ → Read (List X)
array_at one total bytes = do
  count ← compact_at total bytes
  many (one total) count.0 count.1

-- a compact array of bytes, which is one field after its length
unfoldable pub blob_at : ℕ → List ℕ → Read (List ℕ)
blob_at total bytes = do
  count ← compact_at total bytes
  field_at Truncated total count.0 count.1

abbrev pub signature_at : ℕ → List ℕ → Read Signature
signature_at total bytes =
    read_as (λ field. record { 0 = field }) (field_at Truncated total 64) bytes

-- the three header bytes, one field
unfoldable pub header_at : ℕ → List ℕ → Read Header
header_at total bytes = do
  field ← field_at Truncated total 3 bytes
  Ok (
    record {
      required = slice_index field.0 0;
      readonly_signed = slice_index field.0 1;
      readonly_unsigned = slice_index field.0 2;
    },
    field.1,
  )

unfoldable pub instruction_at : ℕ → List ℕ → Read Instruction
instruction_at total bytes = do
  program ← byte_at Truncated total bytes
  accounts ← blob_at total program.1
  input ← blob_at total accounts.1
  Ok (record { program = program.0; accounts = accounts.0; input = input.0 }, input.1)

unfoldable pub lookup_at : ℕ → List ℕ → Read Lookup
lookup_at total bytes = do
  table ← key_at Truncated total bytes
  writable ← blob_at total table.1
  readonly ← blob_at total writable.1
  Ok (record { table = table.0; writable = writable.0; readonly = readonly.0 }, readonly.1)

-- the first byte of a message tells its kind; a Legacy message begins with its header
abbrev pub kind_at : ℕ → List ℕ → Read MessageKind
kind_at total [] = Err (Truncated (place total []))
kind_at total (byte ∷ rest) =
    if nat_lt byte 128 then Ok (Legacy, byte ∷ rest) else
    if byte == 128 then Ok (Zero, rest) else
    Err (Version byte)

-- only a version 0 message has lookups
abbrev pub lookups_at : MessageKind → ℕ → List ℕ → Read (List Lookup)
lookups_at Legacy total bytes = Ok ([], bytes)
lookups_at Zero total bytes = array_at lookup_at total bytes

-- a message from its blockhash on, after what stands before it
abbrev pub body_at : MessageKind → Header → List Key → ℕ → List ℕ → Read Message
body_at kind header keys total bytes = do
  blockhash ← hash_at Truncated total bytes
  instructions ← array_at instruction_at total blockhash.1
  lookups ← lookups_at kind total instructions.1
  Ok (
    record {
      kind = kind;
      header = header;
      keys = keys;
      blockhash = blockhash.0;
      instructions = instructions.0;
      lookups = lookups.0;
    },
    lookups.1,
  )

unfoldable pub message_at : ℕ → List ℕ → Read Message
message_at total bytes = do
  kind ← kind_at total bytes
  header ← header_at total kind.1
  keys ← array_at (key_at Truncated) total header.1
  blockhash ← hash_at Truncated total keys.1
  instructions ← array_at instruction_at total blockhash.1
  lookups ← lookups_at kind.0 total instructions.1
  Ok (
    record {
      kind = kind.0;
      header = header.0;
      keys = keys.0;
      blockhash = blockhash.0;
      instructions = instructions.0;
      lookups = lookups.0;
    },
    lookups.1,
  )

unfoldable pub tx_at : ℕ → List ℕ → Read Tx
tx_at total bytes = do
  signatures ← array_at signature_at total bytes
  message ← message_at total signatures.1
  Ok (record { signatures = signatures.0; message = message.0 }, message.1)

-- the transaction that the bytes are, or the first refusal
unfoldable pub wire_of : List ℕ → Result Tx WireFault
wire_of bytes =
    if nat_lt max_wire_len (length bytes) then Err TooLong else do
      tx ← tx_at (length bytes) bytes
      whole Trailing (length bytes) tx
