-- The serial run of a block (Solana): its transactions one after another, in their order, over the
-- accounts of a snapshot.
use Rattle.std.specs.Prelude.{◌≡◌, ℕ, ◌≤◌, List, [], length}
use Rattle.std.specs.List.{flat_map}
use Rattle.sol_base.specs.declared.key.Key.{Key}
use Rattle.sol_base.specs.Keys.{has_key}
use Rattle.message_codec.specs.Roles.{all_keys}
use Rattle.account_store.specs.State.{State, at}
use Rattle.snapshot_codec.specs.declared.snapshot.Snapshot.{Snapshot}
use Rattle.program_cache.specs.Programs.{programs_of}
use Rattle.admission.specs.declared.chosen.Chosen.{Chosen}
use Rattle.bank_law.specs.Job.{Job}
use Rattle.bank_law.specs.SerialState.{serial_state}
use Rattle.bank_core.specs.Ends.{serial_outcomes}
use Rattle.tx_exec.specs.declared.admitted.AdmittedBlock.{AdmittedBlock}
use Rattle.tx_exec.specs.AdmittedBlock.{job_of}
use Rattle.block_end.specs.Ending.{Ran}

-- the keys that the transactions declare
abbrev pub keys_in : List Chosen → List Key
keys_in order = flat_map (λ t. all_keys t.tx.message t.loaded) order

-- these are all of some keys, in some order and maybe not as often
pub record AreKeysOf (all keys : List Key) : Type 0 where
  pub same : (key : Key) → has_key key keys ≡ has_key key all
  pub fewer : length keys ≤ length all

-- these are the keys that the transactions declare
abbrev pub AreKeysIn : List Chosen → List Key → Type 0
AreKeysIn order keys = AreKeysOf (keys_in order) keys

-- the transactions as a work, with the programs that the snapshot has under their keys
abbrev pub told_in : Snapshot → ℕ → List Chosen → AdmittedBlock
told_in s slot order = record {
  chosen = order;
  programs = programs_of s.accounts (keys_in order);
  slot = slot;
  height = s.limits.height;
}

-- admitted transactions as far as their locks are asked for
abbrev pub locked_in : List Chosen → AdmittedBlock
locked_in order = record {
  chosen = order;
  programs = [];
  slot = 0;
  height = 0;
}

abbrev pub ran : Job → State → Ran
ran job start =
    record {
      accounts = serial_state job start job.count;
      outcomes = serial_outcomes job (at start);
    }

-- the serial run of these transactions in a block of that slot
unfoldable pub serial_run : Snapshot → ℕ → List Chosen → Ran
serial_run s slot order = ran (job_of (told_in s slot order)) s.accounts
