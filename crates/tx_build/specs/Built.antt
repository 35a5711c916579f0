-- The transaction that is built from a draft (Solana; that it may not be too long is tested here).
use Rattle.std.specs.Prelude.{ℕ, ◌||◌, Bool, true, false, nat_lt, List, [], ◌++◌, length, map, position, unwrap_or, Result, Ok, Err, if◌then◌else◌}
use Rattle.std.specs.List.{list_any}
use Rattle.spec_base.specs.Reading.{◌>>=◌}
use Rattle.sol_base.specs.declared.key.Key.{Key}
use Rattle.sol_base.specs.Keys.{same_key}
use Rattle.message_codec.specs.declared.message.Instruction.{Instruction}
use Rattle.message_codec.specs.declared.message.Lookup.{Lookup}
use Rattle.message_codec.specs.declared.message.MessageKind.{MessageKind}
use Rattle.message_codec.specs.declared.message.MessageKind.TheVariants.{Legacy, Zero}
use Rattle.message_codec.specs.declared.message.Message.{Message}
use Rattle.message_codec.specs.Wire.{max_wire_len, tx_bytes}
use Rattle.tx_build.specs.declared.draft.KeyedInstruction.{KeyedInstruction}
use Rattle.tx_build.specs.declared.draft.LookupTable.{LookupTable}
use Rattle.tx_build.specs.declared.draft.Version.{Version}
use Rattle.tx_build.specs.declared.draft.Version.TheVariants.{Legacy as first_version, Zero as version_zero}
use Rattle.tx_build.specs.declared.draft.Draft.{Draft}
use Rattle.tx_build.specs.declared.fault.BuildFault.{BuildFault}
use Rattle.tx_build.specs.declared.fault.BuildFault.TheVariants.{TooManyKeys, TooLong, OutOfMemory}
use Rattle.tx_build.specs.declared.message.TheConstants.{MAX_OWN_KEYS, MAX_KEYS}
use Rattle.tx_build.specs.declared.mentions.Mention.{Mention}
use Rattle.tx_build.specs.declared.tables.Share.{Share}
use Rattle.tx_build.specs.Mentions.{listed}
use Rattle.tx_build.specs.Classes.{ordered_keys, header_of}
use Rattle.tx_build.specs.Tables.{own_mentions, loaded_mentions, shares_of, lookups_of, loaded_keys}
use Rattle.tx_build.specs.Signing.{signed}

abbrev pub is_build_memory : BuildFault → Bool
is_build_memory TooManyKeys = false
is_build_memory TooLong = false
is_build_memory OutOfMemory = true

abbrev pub kind_of : Version → MessageKind
kind_of first_version = Legacy
kind_of (version_zero tables) = Zero

-- only a version 0 message loads keys
abbrev pub tables_of : Version → List LookupTable
tables_of first_version = []
tables_of (version_zero tables) = tables

abbrev pub lookups_by : Version → List Share → List Lookup
lookups_by first_version shares = []
lookups_by (version_zero tables) shares = lookups_of shares

-- where the key stands
unfoldable pub place_of : List Key → Key → ℕ
place_of keys key = unwrap_or (position (λ k. same_key k key) keys) 0

-- the instruction by the places of its keys
unfoldable pub placed : List Key → KeyedInstruction → Instruction
placed keys instruction = record {
  program = place_of keys instruction.program;
  accounts = map (λ account. place_of keys account.key) instruction.accounts;
  input = instruction.input;
}

-- the message's own keys, and what it loads
unfoldable pub draft_mentions : Draft → List Mention
draft_mentions draft = own_mentions (tables_of draft.version) (listed draft)

unfoldable pub own_keys : Draft → List Key
own_keys draft = ordered_keys (draft_mentions draft)

unfoldable pub draft_shares : Draft → List Share
draft_shares draft =
    shares_of (tables_of draft.version)
    (loaded_mentions (tables_of draft.version) (listed draft))

-- all keys that its instructions may name
unfoldable pub keys_of : Draft → List Key
keys_of draft = own_keys draft ++ loaded_keys (draft_shares draft)

abbrev pub message_of : Draft → Message
message_of draft = record {
  kind = kind_of draft.version;
  header = header_of (draft_mentions draft);
  keys = own_keys draft;
  blockhash = draft.blockhash;
  instructions = map (placed (keys_of draft)) draft.instructions;
  lookups = lookups_by draft.version (draft_shares draft);
}

-- more keys of its own than fit into a transaction, or more in all than a byte can number
abbrev pub has_too_many_keys : Draft → Bool
has_too_many_keys draft = nat_lt MAX_OWN_KEYS (length (draft_mentions draft)) || nat_lt MAX_KEYS (length (keys_of draft))

-- more items than a transaction has bytes
abbrev pub is_long : {X : Type 0} → List X → Bool
is_long items = nat_lt max_wire_len (length items)

abbrev pub is_long_instruction : Instruction → Bool
is_long_instruction instruction = is_long instruction.accounts || is_long instruction.input

abbrev pub is_long_lookup : Lookup → Bool
is_long_lookup lookup = is_long lookup.writable || is_long lookup.readonly

abbrev pub has_long_instructions : List Instruction → Bool
has_long_instructions instructions =
    is_long instructions || list_any is_long_instruction instructions

abbrev pub has_long_lookups : List Lookup → Bool
has_long_lookups lookups = is_long lookups || list_any is_long_lookup lookups

-- one of the message's lists is too long
abbrev pub is_long_message : Message → Bool
is_long_message message =
    is_long message.keys || has_long_instructions message.instructions
    || has_long_lookups message.lookups

-- the bytes of the message's transaction
abbrev pub sized : Message → Result (List ℕ) BuildFault
sized message =
    if is_long_message message then Err TooLong else
    if is_long (tx_bytes (signed message)) then Err TooLong else Ok (tx_bytes (signed message))

-- the message, where it has few enough keys
unfoldable pub message_in : Draft → Result Message BuildFault
message_in draft = if has_too_many_keys draft then Err TooManyKeys else Ok (message_of draft)

-- the bytes of the transaction, or why there is none
unfoldable pub built : Draft → Result (List ℕ) BuildFault
built draft = message_in draft >>= sized
