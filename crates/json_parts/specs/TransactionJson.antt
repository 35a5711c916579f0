-- Transactions as JSON (the project's own form), and the bytes that such JSON stands for. An
-- object's members are in the order of their names.
use Rattle.std.specs.Prelude.{ℕ, ◌-◌, ◌^◌, List, [], ◌∷◌, ◌++◌, length, codes, bytes_eq, is_some, if◌then◌else◌, ◌==◌, Option, Some, None, option_and_then, Result, Ok, Err}
use Rattle.spec_base.specs.Bytes.{max_count}
use Rattle.spec_base.specs.Reading.{◌>>=◌}
use Rattle.serde_json.specs.Data.{Data, string, object, member, no_members}
use Rattle.serde_json.specs.Find.{get, as_str, as_number, as_u64}
use Rattle.sol_base.specs.declared.key.Key.{Key}
use Rattle.message_codec.specs.declared.fault.WireFault.{WireFault}
use Rattle.message_codec.specs.declared.message.Signature.{Signature}
use Rattle.message_codec.specs.declared.message.Header.{Header}
use Rattle.message_codec.specs.declared.message.Instruction.{Instruction}
use Rattle.message_codec.specs.declared.message.MessageKind.{MessageKind}
use Rattle.message_codec.specs.declared.message.MessageKind.TheVariants.{Legacy, Zero}
use Rattle.message_codec.specs.declared.message.Lookup.{Lookup}
use Rattle.message_codec.specs.declared.message.Tx.{Tx}
use Rattle.message_codec.specs.Compact.{compact}
use Rattle.message_codec.specs.Wire.{kind_bytes}
use Rattle.message_codec.specs.WireReading.{wire_of}
use Rattle.json_parts.specs.declared.fault.Wanted.TheVariants.{Version, Transaction}
use Rattle.json_parts.specs.declared.fault.JsonFault.TheVariants.{Refused}
use Rattle.json_parts.specs.Faults.{Read}
use Rattle.json_parts.specs.Written.{hex_json, number_json, list_json}
use Rattle.json_parts.specs.Parts.{or_refused, number_in, digits_in, data_in, member_in, known_in, list_in}

-- ---- what is written

abbrev pub key_json : Key → Data
key_json key = hex_json key.0

abbrev pub signature_json : Signature → Data
signature_json signature = hex_json signature.0

abbrev pub header_json : Header → Data
header_json header =
    object (member (codes "readonly_signed") (number_json header.readonly_signed)
    (member (codes "readonly_unsigned") (number_json header.readonly_unsigned)
    (member (codes "required") (number_json header.required) no_members)))

abbrev pub instruction_json : Instruction → Data
instruction_json instruction =
    object (member (codes "accounts") (list_json number_json instruction.accounts)
    (member (codes "data") (hex_json instruction.input)
    (member (codes "program") (number_json instruction.program) no_members)))

abbrev pub lookup_json : Lookup → Data
lookup_json lookup =
    object (member (codes "readonly") (list_json number_json lookup.readonly)
    (member (codes "table") (hex_json lookup.table.0)
    (member (codes "writable") (list_json number_json lookup.writable) no_members)))

abbrev pub version_json : MessageKind → Data
version_json Legacy = string (codes "legacy")
version_json Zero = number_json 0

abbrev pub tx_json : Tx → Data
tx_json tx =
    object (member (codes "header") (header_json tx.message.header)
    (member (codes "instructions") (list_json instruction_json tx.message.instructions)
    (member (codes "keys") (list_json key_json tx.message.keys)
    (member (codes "lookups") (list_json lookup_json tx.message.lookups)
    (member (codes "recent_blockhash") (hex_json tx.message.blockhash.0)
    (member (codes "signatures") (list_json signature_json tx.signatures)
    (member (codes "version") (version_json tx.message.kind) no_members)))))))

-- bytes that are no transaction are written as they are
abbrev pub json_by_wire : List ℕ → Result Tx WireFault → Data
json_by_wire bytes (Ok tx) = tx_json tx
json_by_wire bytes (Err fault) = object (member (codes "wire") (hex_json bytes) no_members)

abbrev pub transaction_json : List ℕ → Data
transaction_json bytes = json_by_wire bytes (wire_of bytes)

-- ---- what is read

abbrev pub header_names : List (List ℕ)
header_names = codes "readonly_signed" ∷ codes "readonly_unsigned" ∷ codes "required" ∷ []

abbrev pub instruction_names : List (List ℕ)
instruction_names = codes "accounts" ∷ codes "data" ∷ codes "program" ∷ []

abbrev pub lookup_names : List (List ℕ)
lookup_names = codes "readonly" ∷ codes "table" ∷ codes "writable" ∷ []

-- a member `shown` is passed over
abbrev pub transaction_names : List (List ℕ)
transaction_names =
    codes "header" ∷ codes "instructions" ∷ codes "keys" ∷ codes "lookups"
    ∷ codes "recent_blockhash" ∷ codes "shown" ∷ codes "signatures" ∷ codes "version" ∷ []

abbrev pub wire_names : List (List ℕ)
wire_names = codes "shown" ∷ codes "wire" ∷ []

unfoldable pub byte_in : Data → Read (List ℕ)
byte_in d = do
  n ← number_in 0 (2 ^ 8 - 1) d
  Ok (n ∷ [])

abbrev pub key_in : Data → Read (List ℕ)
key_in d = digits_in 32 d

abbrev pub signature_in : Data → Read (List ℕ)
signature_in d = digits_in 64 d

unfoldable pub header_in : Data → Read (List ℕ)
header_in d = do
  known ← known_in header_names d
  required ← member_in (codes "required") (number_in 0 (2 ^ 8 - 1)) d
  signed ← member_in (codes "readonly_signed") (number_in 0 (2 ^ 8 - 1)) d
  unsigned ← member_in (codes "readonly_unsigned") (number_in 0 (2 ^ 8 - 1)) d
  Ok (required ∷ signed ∷ unsigned ∷ [])

unfoldable pub instruction_in : Data → Read (List ℕ)
instruction_in d = do
  known ← known_in instruction_names d
  program ← member_in (codes "program") (number_in 0 (2 ^ 8 - 1)) d
  accounts ← member_in (codes "accounts") (list_in max_count byte_in) d
  content ← member_in (codes "data") (data_in max_count) d
  Ok (program ∷ [] ++ compact accounts.0 ++ accounts.1 ++ compact (length content) ++ content)

unfoldable pub lookup_in : Data → Read (List ℕ)
lookup_in d = do
  known ← known_in lookup_names d
  table ← member_in (codes "table") (digits_in 32) d
  writable ← member_in (codes "writable") (list_in max_count byte_in) d
  readonly ← member_in (codes "readonly") (list_in max_count byte_in) d
  Ok (table ++ compact writable.0 ++ writable.1 ++ compact readonly.0 ++ readonly.1)

abbrev pub version_named : List ℕ → Option MessageKind
version_named text = if bytes_eq text (codes "legacy") then Some Legacy else None

abbrev pub version_numbered : ℕ → Option MessageKind
version_numbered n = if n == 0 then Some Zero else None

abbrev pub version_by : Option (List ℕ) → Data → Option MessageKind
version_by (Some text) d = version_named text
version_by None d = option_and_then version_numbered (option_and_then as_u64 (as_number d))

-- the text `legacy` or the number 0
unfoldable pub kind_in : Data → Read MessageKind
kind_in d = or_refused (version_by (as_str d) d) Version

-- a legacy message has no lookups
abbrev pub most_lookups : MessageKind → ℕ
most_lookups Legacy = 0
most_lookups Zero = max_count

abbrev pub lookups_part : MessageKind → ℕ × List ℕ → List ℕ
lookups_part Legacy lookups = []
lookups_part Zero lookups = compact lookups.0 ++ lookups.1

unfoldable pub message_in : Data → Read (List ℕ)
message_in d = do
  kind ← member_in (codes "version") kind_in d
  header ← member_in (codes "header") header_in d
  keys ← member_in (codes "keys") (list_in max_count key_in) d
  blockhash ← member_in (codes "recent_blockhash") (digits_in 32) d
  instructions ← member_in (codes "instructions") (list_in max_count instruction_in) d
  lookups ← member_in (codes "lookups") (list_in (most_lookups kind) lookup_in) d
  Ok (kind_bytes kind ++ header ++ compact keys.0 ++ keys.1 ++ blockhash ++ compact instructions.0 ++ instructions.1 ++ lookups_part kind lookups)

unfoldable pub tx_in : Data → Read (List ℕ)
tx_in d = do
  known ← known_in transaction_names d
  signatures ← member_in (codes "signatures") (list_in max_count signature_in) d
  message ← message_in d
  Ok (compact signatures.0 ++ signatures.1 ++ message)

-- the bytes, where they are a transaction
abbrev pub if_wire : List ℕ → Result Tx WireFault → Read (List ℕ)
if_wire bytes (Ok tx) = Ok bytes
if_wire bytes (Err fault) = Err (Refused [] Transaction)

unfoldable pub whole_tx_in : Data → Read (List ℕ)
whole_tx_in d = do
  bytes ← tx_in d
  if_wire bytes (wire_of bytes)

unfoldable pub wire_in : Data → Read (List ℕ)
wire_in d = do
  known ← known_in wire_names d
  member_in (codes "wire") (data_in max_count) d

-- bytes as they are, or a transaction by its members
unfoldable pub transaction_in : Data → Read (List ℕ)
transaction_in d = if is_some (get (codes "wire") d) then wire_in d else whole_tx_in d
