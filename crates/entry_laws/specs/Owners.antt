-- What the programs of a block do to accounts that they do not own.
use Rattle.std.specs.Prelude.{◌≡◌, ℕ, suc, false, List, All, map, slice_get, Some}
use Rattle.sol_base.specs.declared.key.Key.{Key}
use Rattle.sol_base.specs.declared.key.Hash32.{Hash32}
use Rattle.sol_base.specs.declared.account.Account.{Account}
use Rattle.sol_base.specs.Keys.{has_key}
use Rattle.message_codec.specs.declared.message.Tx.{Tx}
use Rattle.message_codec.specs.Roles.{all_keys}
use Rattle.tx_report.specs.declared.status.Status.TheVariants.{Good}
use Rattle.account_store.specs.State.{at, settled}
use Rattle.snapshot_codec.specs.declared.batch.Batch.{Batch}
use Rattle.snapshot_codec.specs.declared.snapshot.Snapshot.{Snapshot}
use Rattle.block_record.specs.declared.block.Entry.{Entry}
use Rattle.admission.specs.declared.chosen.Chosen.{Chosen}
use Rattle.tx_exec.specs.AdmittedBlock.{block_of}
use Rattle.tx_exec.specs.Payer.{charged, total_fee}
use Rattle.tx_exec.specs.Programs.{KeepsAllButTheFee}
use Rattle.block_run.specs.SerialRun.{told_in}
use Rattle.block_laws.specs.Keeping.{CanRun, order_of}
use Rattle.entry_laws.specs.Entries.{IsEntry, state_in}
use Rattle.entry_laws.specs.Stretches.{IsChain, ItsOwnerRests, KeepsWhatIsNotItsOwn, Stretch, stretches_of}

-- the accounts of a transaction's keys, where so many entries ran
abbrev pub accounts_of : Snapshot → Batch → ℕ → Chosen → List Account
accounts_of s batch n t = map (at (state_in s batch n)) (all_keys t.tx.message t.loaded)

-- the stretches of an entry: those of its transaction on the accounts before it
abbrev pub stretches_at : Snapshot → Batch → ℕ → Chosen → List Stretch
stretches_at s batch i t =
    stretches_of (block_of (told_in s batch.slot (order_of s batch))) t (accounts_of s batch i t)

-- A good entry takes accounts from those before it, less the fee, to those after it, by a chain of
-- stretches, in each of which the program keeps what is not its own. So an account whose owner does
-- not run while it owns it keeps owner, data and all lamports but the fee. The entry leaves all
-- others.
pub record RunsInStretches (s : Snapshot) (batch : Batch) (i : ℕ) (tx : Tx) : Type 0 where
  pub t : Chosen
  pub chosen : slice_get (order_of s batch) i ≡ Some t
  pub same : t.tx ≡ tx
  pub kept : All KeepsWhatIsNotItsOwn (stretches_at s batch i t)
  pub last : List Account
  pub chain : IsChain (charged (accounts_of s batch i t) (total_fee t)) (stretches_at s batch i t) last
  pub resting : (place : ℕ) (was left : Account)
      → slice_get (accounts_of s batch i t) place ≡ Some was → slice_get last place ≡ Some left
      → ItsOwnerRests place (stretches_at s batch i t) → KeepsAllButTheFee t place was left
  pub ends : accounts_of s batch (suc i) t ≡ map settled last
  pub others : (key : Key) → has_key key (all_keys t.tx.message t.loaded) ≡ false
      → at (state_in s batch (suc i)) key ≡ at (state_in s batch i) key

abbrev pub GoodEntriesRunInStretches : Type 0
GoodEntriesRunInStretches =
    (s : Snapshot) (batch : Batch) → CanRun s batch.wires
    → (i : ℕ) (entry : Entry) (tx : Tx) (name : Hash32) → IsEntry s batch i entry tx name
    → entry.status ≡ Good → RunsInStretches s batch i tx
