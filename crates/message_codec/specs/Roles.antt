-- What the keys of a message may do (Solana; that programs and reserved keys are never writable in
-- this width is the project's own), and when a transaction is sane.
use Rattle.std.specs.Prelude.{◌≡◌, ◌<◌, ◌≤◌, ◌+◌, ◌-◌, ℕ, List, [], ◌∷◌, ◌++◌, length, map, Bool, false, not, ◌&&◌, ◌||◌, ◌==◌, nat_lt, nat_le, Option, Some, None, Result, Ok, Err, if◌then◌else◌, All, sum_by, position, slice_get}
use Rattle.std.specs.List.{list_any, enumerate_from, IsDistinct}
use Rattle.std.specs.Option.{option_map_or}
use Rattle.sol_base.specs.declared.key.Key.{Key}
use Rattle.sol_base.specs.declared.key.TheConstants.{SYSTEM_PROGRAM, COMPUTE_BUDGET_PROGRAM, CLOCK_SYSVAR, RENT_SYSVAR}
use Rattle.sol_base.specs.declared.lock.Lock.{Lock}
use Rattle.sol_base.specs.Keys.{same_key}
use Rattle.message_codec.specs.declared.fault.SanitizeFault.{SanitizeFault}
use Rattle.message_codec.specs.declared.fault.SanitizeFault.TheVariants.{SignatureCount, HeaderRange, NoWritablePayer, ProgramIndex, AccountIndex, TooManyKeys, RepeatedKey, PayerReserved, EmptyLookup}
use Rattle.message_codec.specs.declared.message.Header.{Header}
use Rattle.message_codec.specs.declared.message.Instruction.{Instruction}
use Rattle.message_codec.specs.declared.message.Lookup.{Lookup}
use Rattle.message_codec.specs.declared.message.Loaded.{Loaded}
use Rattle.message_codec.specs.declared.message.Message.{Message}
use Rattle.message_codec.specs.declared.message.Tx.{Tx}

-- the keys that no transaction may write (the project's own table)
abbrev pub reserved_keys : List Key
reserved_keys = SYSTEM_PROGRAM ∷ COMPUTE_BUDGET_PROGRAM ∷ CLOCK_SYSVAR ∷ RENT_SYSVAR ∷ []

abbrev pub is_reserved : Key → Bool
is_reserved key = list_any (same_key key) reserved_keys

-- the static keys, the loaded keys to write and the loaded keys to read
abbrev pub all_keys : Message → Loaded → List Key
all_keys message loaded = message.keys ++ loaded.writable ++ loaded.readonly

-- the first keys sign
abbrev pub is_signer_at : Message → ℕ → Bool
is_signer_at message i = nat_lt i message.header.required

-- some instruction names the key as its program
abbrev pub is_program : List Instruction → ℕ → Bool
is_program instructions i = list_any (λ instruction. instruction.program == i) instructions

-- the place of a static key that is not among the last of its group, those that sign or those that
-- do not
abbrev pub is_writable_static : Header → ℕ → ℕ → Bool
is_writable_static header key_count i =
    nat_lt i key_count
    && (nat_lt i (header.required - header.readonly_signed)
    || (nat_le header.required i && nat_lt i (key_count - header.readonly_unsigned)))

-- the place of a key that is loaded to be written
abbrev pub is_writable_loaded : ℕ → ℕ → ℕ → Bool
is_writable_loaded key_count writable_count i =
    nat_le key_count i && nat_lt i (key_count + writable_count)

abbrev pub has_writable_place : Message → Loaded → ℕ → Bool
has_writable_place message loaded i =
    is_writable_static message.header (length message.keys) i
    || is_writable_loaded (length message.keys) (length loaded.writable) i

-- the rule of writability: the key's place allows it, and the key is neither a program nor reserved
abbrev pub may_write : Message → Loaded → ℕ → Key → Bool
may_write message loaded i key =
    has_writable_place message loaded i && not (is_program message.instructions i)
    && not (is_reserved key)

-- the key at a place may be written
abbrev pub is_writable_at : Message → Loaded → ℕ → Bool
is_writable_at message loaded i =
    option_map_or (may_write message loaded i) (slice_get (all_keys message loaded) i) false

-- the lock of the key at a place
abbrev pub lock_of : Message → Loaded → ℕ × Key → Lock
lock_of message loaded (i, key) = record { key = key; write = may_write message loaded i key }

-- each key with what it may
abbrev pub locks_of : Message → Loaded → List Lock
locks_of message loaded = map (lock_of message loaded) (enumerate_from 0 (all_keys message loaded))

-- how many keys a lookup loads, and how many the message has
abbrev pub load_count : Lookup → ℕ
load_count lookup = length lookup.writable + length lookup.readonly

abbrev pub key_count : Message → ℕ
key_count message = length message.keys + sum_by load_count message.lookups

-- as many keys are loaded as the lookups have indexes
abbrev pub HasAllLoaded : Message → Loaded → Type 0
HasAllLoaded message loaded =
    length loaded.writable + length loaded.readonly ≡ sum_by load_count message.lookups

-- an instruction's program is a static key other than key 0, and its accounts are among all keys
pub record AreNamed (message : Message) (loaded : Loaded) (instruction : Instruction) : Type 0 where
  pub static : instruction.program < length message.keys
  pub no_payer : 0 < instruction.program
  pub program : slice_get (all_keys message loaded) instruction.program
      ≡ slice_get message.keys instruction.program
  pub accounts : All (λ index. index < length (all_keys message loaded)) instruction.accounts

-- each refusal of a transaction is a test that it fails

-- an instruction's program is the fee payer or no static key
abbrev pub has_bad_program : List Instruction → ℕ → Bool
has_bad_program instructions key_count =
    list_any (λ instruction. instruction.program == 0 || nat_le key_count instruction.program)
    instructions

-- an instruction's account is no key
abbrev pub has_bad_account : List Instruction → ℕ → Bool
has_bad_account instructions key_count =
    list_any (λ instruction. list_any (λ index. nat_le key_count index) instruction.accounts)
    instructions

-- a key is given again
abbrev pub has_repeated_key : List Key → Bool
has_repeated_key [] = false
has_repeated_key (key ∷ others) =
    list_any (λ other. same_key other key) others || has_repeated_key others

-- the fee payer is reserved
abbrev pub has_reserved_payer : List Key → Bool
has_reserved_payer [] = false
has_reserved_payer (payer ∷ others) = is_reserved payer

abbrev pub loads_none : Lookup → Bool
loads_none lookup = length lookup.writable == 0 && length lookup.readonly == 0

-- the first lookup without an index
abbrev pub empty_lookup : List Lookup → Option ℕ
empty_lookup lookups = position loads_none lookups

abbrev pub lookups_sanitized : Option ℕ → Result (Unit {0}) SanitizeFault
lookups_sanitized None = Ok tt
lookups_sanitized (Some lookup) = Err (EmptyLookup lookup)

-- the first refusal of the nine, or none
abbrev pub sanitized : Tx → ℕ → Result (Unit {0}) SanitizeFault
sanitized tx most =
    let message = tx.message in
    let header = message.header in
    if not (length tx.signatures == header.required) then Err SignatureCount else
    if nat_lt (length message.keys) (header.required + header.readonly_unsigned)
    then Err HeaderRange else
    if nat_le header.required header.readonly_signed then Err NoWritablePayer else
    if has_bad_program message.instructions (length message.keys) then Err ProgramIndex else
    if has_bad_account message.instructions (key_count message) then Err AccountIndex else
    if nat_lt most (key_count message) then Err TooManyKeys else
    if has_repeated_key message.keys then Err RepeatedKey else
    if has_reserved_payer message.keys then Err PayerReserved else
    lookups_sanitized (empty_lookup message.lookups)

-- none of the nine refusals holds
pub record IsSane (tx : Tx) (most : ℕ) : Type 0 where
  pub signatures : length tx.signatures ≡ tx.message.header.required
  pub groups : tx.message.header.required + tx.message.header.readonly_unsigned
      ≤ length tx.message.keys
  pub payer : tx.message.header.readonly_signed < tx.message.header.required
  pub programs : All (λ instruction. (0 < instruction.program)
      × (instruction.program < length tx.message.keys)) tx.message.instructions
  pub accounts : All
      (λ instruction. All (λ index. index < key_count tx.message) instruction.accounts)
      tx.message.instructions
  pub keys : key_count tx.message ≤ most
  pub apart : IsDistinct same_key tx.message.keys
  pub payer_free : has_reserved_payer tx.message.keys ≡ false
  pub lookups : All (λ lookup. 0 < load_count lookup) tx.message.lookups
