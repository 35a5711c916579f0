-- A chain at its start and a block of transfers, both drawn from a number (the project's own).
use Rattle.std.specs.Prelude.{ℕ, zero, suc, ◌+◌, ◌-◌, ◌*◌, ◌/◌, ◌%◌, ◌^◌, List, [], ◌∷◌, ◌++◌, map, replicate, false}
use Rattle.std.specs.List.{range_with_len}
use Rattle.std.specs.Int.{w32, w64, to_le_bytes}
use Rattle.std.specs.FinMap.{from_entries}
use Rattle.sol_base.specs.declared.key.Key.{Key}
use Rattle.sol_base.specs.declared.key.Hash32.{Hash32}
use Rattle.sol_base.specs.declared.key.TheConstants.{SYSTEM_PROGRAM, COMPUTE_BUDGET_PROGRAM}
use Rattle.sol_base.specs.declared.account.Account.{Account}
use Rattle.sol_base.specs.Limits.{first_limits}
use Rattle.message_codec.specs.declared.message.Instruction.{Instruction}
use Rattle.message_codec.specs.declared.message.MessageKind.TheVariants.{Legacy}
use Rattle.message_codec.specs.declared.message.Message.{Message}
use Rattle.message_codec.specs.declared.message.Tx.{Tx}
use Rattle.message_codec.specs.Wire.{tx_bytes}
use Rattle.account_store.specs.declared.sorted.KeyedAccount.{KeyedAccount}
use Rattle.account_store.specs.State.{State}
use Rattle.account_store.specs.Sorted.{entries_of}
use Rattle.snapshot_codec.specs.declared.snapshot.Snapshot.{Snapshot}
use Rattle.batch_gen.specs.declared.start.TheConstants.{COLLECTOR_LAMPORTS, USER_LAMPORTS, USERS}
use Rattle.batch_gen.specs.declared.transfers.TheConstants.{PRICES}
use Rattle.batch_gen.specs.declared.made.Made.{Made}

-- the state of the generator of numbers after one draw more
abbrev pub next_state : ℕ → ℕ
next_state x = (x * 6364136223846793005 + 1442695040888963407) % 2 ^ 64

-- and after so many
abbrev pub state_after : ℕ → ℕ → ℕ
state_after zero x = x
state_after (suc n) x = next_state (state_after n x)

-- the n-th draw from a state: the upper 31 bits of the state that it leaves
abbrev pub draw : ℕ → ℕ → ℕ
draw x n = state_after n x / 2 ^ 33

-- user i
abbrev pub user : ℕ → Key
user i = record { 0 = 85 ∷ i ∷ replicate 30 0 }

-- who collects the fees
abbrev pub collector : Key
collector = record { 0 = replicate 32 192 }

-- the hash of the block before
abbrev pub start_hash : Hash32
start_hash = record { 0 = replicate 32 170 }

-- an account of the system program without data
abbrev pub wallet : ℕ → Account
wallet lamports = record {
  lamports = lamports;
  owner = SYSTEM_PROGRAM;
  executable = false;
  bytes = [];
}

abbrev pub user_account : ℕ → KeyedAccount
user_account i = record { key = user i; account = wallet USER_LAMPORTS }

abbrev pub collector_account : KeyedAccount
collector_account = record { key = collector; account = wallet COLLECTOR_LAMPORTS }

-- the users and the collector
unfoldable pub start_accounts : List KeyedAccount
start_accounts = map user_account (range_with_len 0 USERS) ++ collector_account ∷ []

unfoldable pub start_state : State
start_state = from_entries (entries_of start_accounts)

abbrev pub start_snapshot : Snapshot
start_snapshot = record {
  slot = 0;
  limits = first_limits;
  recent = record { hash = start_hash; messages = [] } ∷ [];
  accounts = start_state;
}

-- a limit of 1,000 compute units
abbrev pub unit_limit : Instruction
unit_limit = record { program = 3; accounts = []; input = 2 ∷ to_le_bytes w32 1000 }

-- a price of a compute unit in micro-lamports
abbrev pub unit_price : ℕ → Instruction
unit_price price = record { program = 3; accounts = []; input = 3 ∷ to_le_bytes w64 price }

-- a transfer of lamports from key 0 to key 1
abbrev pub payment : ℕ → Instruction
payment lamports =
    record {
      program = 2;
      accounts = 0 ∷ 1 ∷ [];
      input = to_le_bytes w32 2 ++ to_le_bytes w64 lamports;
    }

-- the message of a transfer between two users
abbrev pub transfer_message : ℕ → ℕ → ℕ → ℕ → Message
transfer_message from to price lamports = record {
  kind = Legacy;
  header = record { required = 1; readonly_signed = 0; readonly_unsigned = 2 };
  keys = user from ∷ user to ∷ SYSTEM_PROGRAM ∷ COMPUTE_BUDGET_PROGRAM ∷ [];
  blockhash = start_hash;
  instructions = unit_limit ∷ unit_price price ∷ payment lamports ∷ [];
  lookups = [];
}

-- its signature is zeros
abbrev pub transfer : ℕ → ℕ → ℕ → ℕ → Tx
transfer from to price lamports = record {
  signatures = record { 0 = replicate 64 0 } ∷ [];
  message = transfer_message from to price lamports;
}

-- two different users, a price and lamports, drawn from a state
abbrev pub drawn_transfer : ℕ → ℕ → Tx
drawn_transfer x lamports =
    let from = draw x 1 % USERS in
    let to = (from + 1 + draw x 2 % (USERS - 1)) % USERS in
    transfer from to (draw x 3 % PRICES) lamports

-- the bytes of transaction t, after three draws for each before it
unfoldable pub wire_of : ℕ → ℕ → List ℕ
wire_of number t = tx_bytes (drawn_transfer (state_after (3 * t) number) (t + 1))

-- so many transactions, for slot 1
unfoldable pub made : ℕ → ℕ → Made
made number count = record {
  snapshot = start_snapshot;
  batch = record {
    slot = 1;
    collector = collector;
    wires = map (wire_of number) (range_with_len 0 count);
  };
}
