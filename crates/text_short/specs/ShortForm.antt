-- Batches in the short form (the project's own), and the bytes that they stand for.
use Rattle.std.specs.Prelude.{ℕ, ◌-◌, ◌^◌, List, [], ◌∷◌, codes, bytes_eq, is_some, Bool, false, if◌then◌else◌, Option, Some, None, Result, Ok, Err}
use Rattle.spec_base.specs.Bytes.{max_count}
use Rattle.spec_base.specs.Reading.{◌>>=◌}
use Rattle.serde_json.specs.Data.{Data}
use Rattle.serde_json.specs.Find.{get, as_str}
use Rattle.sol_base.specs.declared.key.Hash32.{Hash32}
use Rattle.sol_base.specs.Limits.{max_transactions}
use Rattle.snapshot_codec.specs.Batch.{batch_bytes}
use Rattle.tx_build.specs.declared.draft.AccountMeta.{AccountMeta}
use Rattle.tx_build.specs.declared.draft.KeyedInstruction.{KeyedInstruction}
use Rattle.tx_build.specs.declared.draft.LookupTable.{LookupTable}
use Rattle.tx_build.specs.declared.draft.Version.{Version}
use Rattle.tx_build.specs.declared.draft.Version.TheVariants.{Legacy, Zero}
use Rattle.tx_build.specs.declared.draft.Draft.{Draft}
use Rattle.tx_build.specs.declared.fault.BuildFault.{BuildFault}
use Rattle.tx_build.specs.declared.fault.BuildFault.TheVariants.{TooManyKeys, TooLong, OutOfMemory}
use Rattle.tx_build.specs.declared.tables.TheConstants.{MAX_ADDRESSES}
use Rattle.tx_build.specs.Built.{built}
use Rattle.json_parts.specs.declared.fault.Wanted.TheVariants.{FewKeys, Transaction}
use Rattle.json_parts.specs.declared.fault.JsonFault.TheVariants.{Refused, OutOfMemory as no_memory}
use Rattle.json_parts.specs.Faults.{Read}
use Rattle.json_parts.specs.Parts.{number_in, digits_in, flag_in, data_in, member_in, known_in}
use Rattle.text_short.specs.Members.{key_in, list_of}
use Rattle.text_short.specs.SystemCalls.{system_in}
use Rattle.text_short.specs.BudgetCalls.{budget_in}
use Rattle.text_short.specs.LoaderCalls.{loader_in}

-- an account with its rights
unfoldable pub account_in : Data → Read AccountMeta
account_in d = do
  known ← known_in (codes "key" ∷ codes "signer" ∷ codes "writable" ∷ []) d
  key ← member_in (codes "key") key_in d
  signer ← member_in (codes "signer") flag_in d
  writable ← member_in (codes "writable") flag_in d
  Ok (record { key = key; signer = signer; writable = writable })

-- an instruction of any program
unfoldable pub plain_in : Data → Read KeyedInstruction
plain_in d = do
  known ← known_in (codes "program" ∷ codes "accounts" ∷ codes "data" ∷ []) d
  program ← member_in (codes "program") key_in d
  accounts ← member_in (codes "accounts") (list_of max_count account_in) d
  input ← member_in (codes "data") (data_in max_count) d
  Ok (record { program = program; accounts = accounts; input = input })

-- told by which member is there
unfoldable pub instruction_in : Data → Read KeyedInstruction
instruction_in d =
    if is_some (get (codes "system") d) then system_in d else
    (if is_some (get (codes "budget") d) then budget_in d else
    (if is_some (get (codes "loader") d) then loader_in d else plain_in d))

-- a table, with no more addresses than an index can name
unfoldable pub table_in : Data → Read LookupTable
table_in d = do
  known ← known_in (codes "table" ∷ codes "addresses" ∷ []) d
  table ← member_in (codes "table") key_in d
  addresses ← member_in (codes "addresses") (list_of MAX_ADDRESSES key_in) d
  Ok (record { key = table; addresses = addresses })

unfoldable pub tables_in : Data → Read Version
tables_in d = do
  tables ← member_in (codes "lookups") (list_of max_count table_in) d
  Ok (Zero tables)

-- version 0 where lookups are there
unfoldable pub version_in : Data → Read Version
version_in d = if is_some (get (codes "lookups") d) then tables_in d else Ok Legacy

unfoldable pub hash_in : Data → Read Hash32
hash_in d = do
  digits ← digits_in 32 d
  Ok (record { 0 = digits })

-- the value is the text `newest`
abbrev pub is_newest : Option (List ℕ) → Bool
is_newest (Some text) = bytes_eq text (codes "newest")
is_newest None = false

-- the text `newest` where the newest blockhash is known, and else digits
unfoldable pub blockhash_in : Option Hash32 → Data → Read Hash32
blockhash_in (Some newest) d = if is_newest (as_str d) then Ok newest else hash_in d
blockhash_in None d = hash_in d

unfoldable pub draft_names : List (List ℕ)
draft_names =
    codes "payer" ∷ codes "recent_blockhash" ∷ codes "instructions" ∷ codes "lookups" ∷ []

unfoldable pub draft_in : Option Hash32 → Data → Read Draft
draft_in newest d = do
  known ← known_in draft_names d
  payer ← member_in (codes "payer") key_in d
  blockhash ← member_in (codes "recent_blockhash") (blockhash_in newest) d
  instructions ← member_in (codes "instructions") (list_of max_count instruction_in) d
  version ← version_in d
  Ok (record {
    version = version;
    payer = payer;
    blockhash = blockhash;
    instructions = instructions;
  })

-- the bytes, or what is wanted in place of the transaction
abbrev pub wire_by : Result (List ℕ) BuildFault → Read (List ℕ)
wire_by (Ok bytes) = Ok bytes
wire_by (Err TooManyKeys) = Err (Refused [] FewKeys)
wire_by (Err TooLong) = Err (Refused [] Transaction)
wire_by (Err OutOfMemory) = Err no_memory

unfoldable pub transaction_in : Option Hash32 → Data → Read (List ℕ)
transaction_in newest d = do
  draft ← draft_in newest d
  wire_by (built draft)

unfoldable pub batch_names : List (List ℕ)
batch_names = codes "slot" ∷ codes "collector" ∷ codes "transactions" ∷ []

-- the bytes of the batch
unfoldable pub short_batch_in : Option Hash32 → Data → Read (List ℕ)
short_batch_in newest d = do
  known ← known_in batch_names d
  slot ← member_in (codes "slot") (number_in 1 (2 ^ 64 - 1)) d
  collector ← member_in (codes "collector") key_in d
  wires ← member_in (codes "transactions") (list_of max_transactions (transaction_in newest)) d
  Ok (batch_bytes (record { slot = slot; collector = collector; wires = wires }))
