-- The wire format of a transaction (Solana; that no bytes may follow it, and the places of
-- refusals, are the project's own).
use Rattle.std.specs.Prelude.{◌≡◌, ℕ, ◌<◌, ◌≤◌, List, [], ◌∷◌, ◌++◌, length, All}
use Rattle.std.specs.List.{flat_map}
use Rattle.spec_base.specs.Sha256.{sha256}
use Rattle.sol_base.specs.Keys.{IsKey, IsHash, key_bytes, hash_bytes}
use Rattle.sol_base.specs.declared.key.Hash32.{Hash32}
use Rattle.message_codec.specs.declared.message.Signature.{Signature}
use Rattle.message_codec.specs.declared.message.Header.{Header}
use Rattle.message_codec.specs.declared.message.Instruction.{Instruction}
use Rattle.message_codec.specs.declared.message.MessageKind.{MessageKind}
use Rattle.message_codec.specs.declared.message.MessageKind.TheVariants.{Legacy, Zero}
use Rattle.message_codec.specs.declared.message.Lookup.{Lookup}
use Rattle.message_codec.specs.declared.message.Message.{Message}
use Rattle.message_codec.specs.declared.message.Tx.{Tx}
use Rattle.message_codec.specs.Compact.{compact, max_count}
use Rattle.message_codec.specs.declared.reading.TheConstants.{MAX_WIRE_LEN}

-- a compact array: the length, and then the items
abbrev pub array_bytes : {X : Type 0} → (X → List ℕ) → List X → List ℕ
array_bytes item items = compact (length items) ++ flat_map item items

abbrev pub blob_bytes : List ℕ → List ℕ
blob_bytes bytes = compact (length bytes) ++ bytes

abbrev pub signature_bytes : Signature → List ℕ
signature_bytes signature = signature.0

abbrev pub header_bytes : Header → List ℕ
header_bytes header = header.required ∷ header.readonly_signed ∷ header.readonly_unsigned ∷ []

abbrev pub instruction_bytes : Instruction → List ℕ
instruction_bytes instruction =
    instruction.program ∷ blob_bytes instruction.accounts ++ blob_bytes instruction.input

abbrev pub lookup_bytes : Lookup → List ℕ
lookup_bytes lookup =
    key_bytes lookup.table ++ blob_bytes lookup.writable ++ blob_bytes lookup.readonly

-- a version 0 message begins with 128
abbrev pub kind_bytes : MessageKind → List ℕ
kind_bytes Legacy = []
kind_bytes Zero = 128 ∷ []

-- and has lookups
abbrev pub lookups_bytes : MessageKind → List Lookup → List ℕ
lookups_bytes Legacy lookups = []
lookups_bytes Zero lookups = array_bytes lookup_bytes lookups

abbrev pub message_bytes : Message → List ℕ
message_bytes message =
    kind_bytes message.kind ++ header_bytes message.header ++ array_bytes key_bytes message.keys
    ++ hash_bytes message.blockhash
    ++ array_bytes instruction_bytes message.instructions
    ++ lookups_bytes message.kind message.lookups

abbrev pub tx_bytes : Tx → List ℕ
tx_bytes tx = array_bytes signature_bytes tx.signatures ++ message_bytes tx.message

-- the name of a message: the SHA-256 of its bytes (the project's own)
abbrev pub message_name : Message → Hash32
message_name message = record { 0 = sha256 (message_bytes message) }

-- no more than a compact length can count
abbrev pub IsCountable : {X : Type 0} → List X → Type 0
IsCountable items = length items ≤ max_count

-- each list of the message is such
pub record HasShortLists (message : Message) : Type 0 where
  pub keys : IsCountable message.keys
  pub instructions : IsCountable message.instructions
  pub accounts : All (λ instruction. IsCountable instruction.accounts) message.instructions
  pub inputs : All (λ instruction. IsCountable instruction.input) message.instructions
  pub lookups : IsCountable message.lookups
  pub writable : All (λ lookup. IsCountable lookup.writable) message.lookups
  pub readonly : All (λ lookup. IsCountable lookup.readonly) message.lookups

-- what the types of the fields say of every value
pub record HasWidths (tx : Tx) : Type 0 where
  pub signatures : All (λ signature. length signature.0 ≡ 64) tx.signatures
  pub required : tx.message.header.required < 256
  pub readonly_signed : tx.message.header.readonly_signed < 256
  pub readonly_unsigned : tx.message.header.readonly_unsigned < 256
  pub keys : All IsKey tx.message.keys
  pub blockhash : IsHash tx.message.blockhash
  pub programs : All (λ instruction. instruction.program < 256) tx.message.instructions
  pub tables : All (λ lookup. IsKey lookup.table) tx.message.lookups

-- a Legacy message has no lookups
abbrev pub AllowsLookups : MessageKind → List Lookup → Type 0
AllowsLookups Legacy lookups = lookups ≡ []
AllowsLookups Zero lookups = Unit {0}

-- and begins with a byte below 128
abbrev pub BeginsAsItsKind : MessageKind → Header → Type 0
BeginsAsItsKind Legacy header = header.required < 128
BeginsAsItsKind Zero header = Unit {0}

-- the most bytes of a transaction (Solana)
abbrev pub max_wire_len : ℕ
max_wire_len = MAX_WIRE_LEN

-- the bytes are that transaction
pub record Wire (bytes : List ℕ) (tx : Tx) : Type 0 where
  pub short : length bytes ≤ max_wire_len
  pub spelled : bytes ≡ tx_bytes tx
  pub begins : BeginsAsItsKind tx.message.kind tx.message.header
  pub allows : AllowsLookups tx.message.kind tx.message.lookups
  pub signatures : IsCountable tx.signatures
  pub lists : HasShortLists tx.message
  pub widths : HasWidths tx

-- a transaction whose bytes are a wire
pub record IsOneWire (tx : Tx) : Type 0 where
  pub short : length (tx_bytes tx) ≤ max_wire_len
  pub begins : BeginsAsItsKind tx.message.kind tx.message.header
  pub allows : AllowsLookups tx.message.kind tx.message.lookups
  pub signatures : IsCountable tx.signatures
  pub lists : HasShortLists tx.message
  pub widths : HasWidths tx
