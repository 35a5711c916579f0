-- What entries leave as it is.
use Rattle.std.specs.Prelude.{◌≡◌, ◌≢◌, ℕ, suc, ◌≤◌, length, false, All, List, option_map, if◌then◌else◌}
use Rattle.sol_base.specs.declared.key.Key.{Key}
use Rattle.sol_base.specs.declared.key.Hash32.{Hash32}
use Rattle.sol_base.specs.declared.account.Account.{Account}
use Rattle.sol_base.specs.Keys.{same_key}
use Rattle.message_codec.specs.declared.message.Tx.{Tx}
use Rattle.tx_report.specs.declared.cause.Cause.{Cause}
use Rattle.tx_report.specs.declared.cause.DropCause.{DropCause}
use Rattle.tx_report.specs.declared.status.Status.TheVariants.{Dropped, Failed}
use Rattle.account_store.specs.State.{State, at, get, kept, put}
use Rattle.loader_prog.specs.Loader.{active}
use Rattle.snapshot_codec.specs.declared.batch.Batch.{Batch}
use Rattle.snapshot_codec.specs.declared.snapshot.Snapshot.{Snapshot}
use Rattle.block_record.specs.declared.block.Entry.{Entry}
use Rattle.admission.specs.declared.chosen.Chosen.{Chosen}
use Rattle.admission.specs.Admission.{may_write_key}
use Rattle.tx_exec.specs.Payer.{less}
use Rattle.block_end.specs.BlockEnd.{more}
use Rattle.block_run.specs.Blocks.{block_result}
use Rattle.block_laws.specs.Keeping.{CanRun, order_of}
use Rattle.entry_laws.specs.Entries.{IsEntry, IsPayer, state_in}

-- the payer has the fee, and paying it is all that is done
pub record PaysAlone (before after : State) (payer : Key) (fee : ℕ) : Type 0 where
  pub enough : fee ≤ (at before payer).lamports
  pub same : after ≡ put before payer (less (at before payer) fee)

-- a failed entry leaves only its fee
abbrev pub FailedEntriesPayAlone : Type 0
FailedEntriesPayAlone =
    (s : Snapshot) (batch : Batch) → CanRun s batch.wires
    → (i : ℕ) (entry : Entry) (tx : Tx) (name : Hash32) → IsEntry s batch i entry tx name
    → (payer : Key) → IsPayer tx payer
    → (index : ℕ) (cause : Cause) (detail : ℕ) → entry.status ≡ Failed index cause detail
    → PaysAlone (state_in s batch i) (state_in s batch (suc i)) payer entry.fee

-- a dropped one leaves nothing
abbrev pub DroppedEntriesLeaveNothing : Type 0
DroppedEntriesLeaveNothing =
    (s : Snapshot) (batch : Batch) → CanRun s batch.wires
    → (i : ℕ) (entry : Entry) (tx : Tx) (name : Hash32) → IsEntry s batch i entry tx name
    → (cause : DropCause) → entry.status ≡ Dropped cause
    → state_in s batch (suc i) ≡ state_in s batch i

-- none of these transactions may write the key
abbrev pub NoneMayWrite : Key → List Chosen → Type 0
NoneMayWrite key order = All (λ t. may_write_key key t ≡ false) order

-- a key that no entry may write stays as it is while they run; and at the end of the block, unless
-- it collects the fees, it has what the loader makes of it, which is another account for a final
-- buffer alone
pub record KeyStays (s : Snapshot) (batch : Batch) (key : Key) : Type 0 where
  pub running : (n : ℕ) → n ≤ length (order_of s batch)
      → get (state_in s batch n) key ≡ get s.accounts key
  pub after : key ≢ batch.collector
      → get (block_result s batch).after.accounts key ≡ option_map active (get s.accounts key)

abbrev pub UnwrittenKeysStay : Type 0
UnwrittenKeysStay =
    (s : Snapshot) (batch : Batch) → CanRun s batch.wires
    → (key : Key) → NoneMayWrite key (order_of s batch) → KeyStays s batch key

-- the collector has what a block collected, and the others have what they had
abbrev pub paid_to : Key → ℕ → Key → Account → Account
paid_to collector collected key account =
    if same_key key collector then more account collected else account

-- the end of a block changes no other account than the collector's, but for what the loader makes of
-- final buffers
abbrev pub EndsPayAndActivate : Type 0
EndsPayAndActivate =
    (s : Snapshot) (batch : Batch) → CanRun s batch.wires → (key : Key)
    → get (block_result s batch).after.accounts key
    ≡ option_map active (kept (paid_to batch.collector (block_result s batch).block.collected key
    (at (state_in s batch (length (order_of s batch))) key)))
