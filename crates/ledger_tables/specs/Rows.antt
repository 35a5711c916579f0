-- The rows of a block in the tables of a chain (the project's own).
use Rattle.std.specs.Prelude.{ℕ, ◌||◌, Bool, nat_lt, List, [], length, map, slice_get, Option, None, option_map, Result, Ok, Err, if◌then◌else◌}
use Rattle.std.specs.List.{enumerate_from, flat_map}
use Rattle.hex.specs.Hex.{encode_lower}
use Rattle.sol_base.specs.declared.key.Key.{Key}
use Rattle.sol_base.specs.declared.account.Account.{Account}
use Rattle.message_codec.specs.declared.message.Instruction.{Instruction}
use Rattle.message_codec.specs.declared.message.Loaded.{Loaded}
use Rattle.message_codec.specs.declared.message.Message.{Message}
use Rattle.message_codec.specs.declared.parsed.Parsed.{Parsed}
use Rattle.message_codec.specs.declared.parsed.Parsed.TheVariants.{Good, Bad}
use Rattle.message_codec.specs.Compact.{max_count}
use Rattle.message_codec.specs.Parsing.{parsed_of}
use Rattle.message_codec.specs.Roles.{all_keys, has_repeated_key}
use Rattle.sol_base.specs.Accounts.{empty_account}
use Rattle.account_store.specs.State.{State, entries}
use Rattle.admission.specs.declared.lookups.LookupFault.{LookupFault}
use Rattle.admission.specs.Lookups.{load, loads_none}
use Rattle.block_record.specs.declared.block.Block.{Block}
use Rattle.block_record.specs.declared.block.Entry.{Entry}
use Rattle.tx_report.specs.Statuses.{status_text_of}
use Rattle.ledger_tables.specs.Texts.{Text, key_digits, signature_digits, keys_json}
use Rattle.ledger_tables.specs.declared.rows.BlockRow.{BlockRow}
use Rattle.ledger_tables.specs.declared.rows.TransactionRow.{TransactionRow}
use Rattle.ledger_tables.specs.declared.rows.InstructionRow.{InstructionRow}
use Rattle.ledger_tables.specs.declared.rows.LogRow.{LogRow}
use Rattle.ledger_tables.specs.declared.rows.AccountRow.{AccountRow}
use Rattle.ledger_tables.specs.declared.rows.BlockRows.{BlockRows}

-- a block whose run took so many microseconds
abbrev pub block_row : Block → ℕ → BlockRow
block_row block micros =
    record {
      slot = block.slot;
      hash = encode_lower block.hash.0;
      previous = encode_lower block.previous.0;
      collector = key_digits block.collector;
      state = encode_lower block.state.0;
      burned = block.burned;
      collected = block.collected;
      micros = micros;
    }

-- the first signature and the payer of a transaction; bytes that are none have neither
abbrev pub first_signature : Parsed → Option Text
first_signature (Good tx name) = option_map signature_digits (slice_get tx.signatures 0)
first_signature (Bad fault) = None

abbrev pub payer_of : Parsed → Option Text
payer_of (Good tx name) = option_map key_digits (slice_get tx.message.keys 0)
payer_of (Bad fault) = None

-- the transaction at a position of the block of a slot
abbrev pub transaction_row : ℕ → ℕ × Entry → TransactionRow
transaction_row slot (position, entry) =
    record {
      slot = slot;
      position = position;
      signature = first_signature (parsed_of entry.wire);
      payer = payer_of (parsed_of entry.wire);
      status = status_text_of entry.status;
      units = entry.units;
      fee = entry.fee;
    }

abbrev pub transaction_rows : Block → List TransactionRow
transaction_rows block = map (transaction_row block.slot) (enumerate_from 0 block.entries)

-- a message that is refused before its lookups are looked at: it has more of them than the format has
-- room for, or a static key stands in it twice
abbrev pub has_odd_keys : Message → Bool
has_odd_keys message = nat_lt max_count (length message.lookups) || has_repeated_key message.keys

abbrev pub loaded_by : Result Loaded LookupFault → Loaded
loaded_by (Ok loaded) = loaded
loaded_by (Err fault) = loads_none

-- what a message looks up in the state before its block, and nothing where that is refused
abbrev pub loaded_in : State → Message → Loaded
loaded_in before message =
    if has_odd_keys message then loads_none else loaded_by (load before message)

-- its static keys, and then those
abbrev pub keys_in : State → Message → List Key
keys_in before message = all_keys message (loaded_in before message)

abbrev pub key_at : List Key → ℕ → Option Key
key_at keys place = slice_get keys place

-- the instruction at a place of a transaction
abbrev pub instruction_row : ℕ → ℕ → List Key → ℕ × Instruction → InstructionRow
instruction_row slot position keys (place, instruction) =
    record {
      slot = slot;
      position = position;
      place = place;
      program = option_map key_digits (key_at keys instruction.program);
      accounts = keys_json (map (key_at keys) instruction.accounts);
      input = instruction.input;
    }

abbrev pub rows_of_message : State → ℕ → ℕ → Message → List InstructionRow
rows_of_message before slot position message =
    map (instruction_row slot position (keys_in before message))
    (enumerate_from 0 message.instructions)

abbrev pub rows_of_parsed : State → ℕ → ℕ → Parsed → List InstructionRow
rows_of_parsed before slot position (Good tx name) = rows_of_message before slot position tx.message
rows_of_parsed before slot position (Bad fault) = []

abbrev pub rows_of_entry : State → ℕ → ℕ × Entry → List InstructionRow
rows_of_entry before slot (position, entry) =
    rows_of_parsed before slot position (parsed_of entry.wire)

-- the instructions of all messages, in their order; none that a program calls
abbrev pub instruction_rows : State → Block → List InstructionRow
instruction_rows before block =
    flat_map (rows_of_entry before block.slot) (enumerate_from 0 block.entries)

-- the line at a place among those of a transaction
abbrev pub log_row : ℕ → ℕ → ℕ × List ℕ → LogRow
log_row slot position (place, line) =
    record { slot = slot; position = position; place = place; line = line }

abbrev pub lines_of_entry : ℕ → ℕ × Entry → List LogRow
lines_of_entry slot (position, entry) =
    map (log_row slot position) (enumerate_from 0 entry.lines)

abbrev pub log_rows : Block → List LogRow
log_rows block = flat_map (lines_of_entry block.slot) (enumerate_from 0 block.entries)

-- the account under a key after the block of a slot
abbrev pub account_row : ℕ → Key × Account → AccountRow
account_row slot (key, account) =
    record {
      slot = slot;
      key = key_digits key;
      lamports = account.lamports;
      owner = key_digits account.owner;
      executable = account.executable;
      bytes = account.bytes;
    }

-- an account that the block took away: it has no lamports, and all else as in the empty account
abbrev pub gone_row : ℕ → Key → AccountRow
gone_row slot key = account_row slot (key, empty_account)

abbrev pub account_rows : ℕ → State → List AccountRow
account_rows slot accounts = map (account_row slot) (entries accounts)

abbrev pub gone_rows : ℕ → List Key → List AccountRow
gone_rows slot gone = map (gone_row slot) gone

-- all rows of a block over the accounts before it, told what it changed or made and what it took away
abbrev pub block_rows : State → Block → ℕ → State → List Key → BlockRows
block_rows before block micros changed gone =
    record {
      block = block_row block micros;
      transactions = transaction_rows block;
      instructions = instruction_rows before block;
      logs = log_rows block;
      changed = account_rows block.slot changed;
      gone = gone_rows block.slot gone;
    }
