-- The instructions of a transaction, one after another (Solana; that those before a missing program
-- run is the project's own).
use Rattle.std.specs.Prelude.{ℕ, ◌+◌, Bool, List, [], ◌∷◌, map, Result, Ok, Err}
use Rattle.sol_base.specs.declared.key.Key.{Key}
use Rattle.sol_base.specs.declared.account.Account.{Account}
use Rattle.sol_base.specs.declared.lock.Lock.{Lock}
use Rattle.sol_base.specs.declared.lock.Meta.{Meta}
use Rattle.message_codec.specs.declared.message.Instruction.{Instruction}
use Rattle.message_codec.specs.Roles.{all_keys, is_signer_at, is_writable_at, locks_of}
use Rattle.program_cache.specs.Programs.{Sought}
use Rattle.tx_report.specs.LogLines.{Log, no_lines}
use Rattle.tx_report.specs.declared.status.InstructionError.{InstructionError}
use Rattle.admission.specs.declared.chosen.Chosen.{Chosen}
use Rattle.invoke_engine.specs.declared.call.Call.{Call}
use Rattle.invoke_engine.specs.Frame.{Fixed, Ending, instruction}
pub use Rattle.tx_exec.specs.declared.failure.Failure.{Failure}
pub use Rattle.tx_exec.specs.declared.executing.Executed.{Executed}

-- what is fixed for all transactions of a block: what is found under the key of a program, the
-- slot, and the greatest stack height
pub record InBlock : Type 0 where
  pub programs : Key → Sought
  pub slot : ℕ
  pub height : ℕ

-- what is fixed beside the frames of one: its keys and its heap too
abbrev pub fixed_for : InBlock → Chosen → Fixed
fixed_for block t = record {
  programs = block.programs;
  setting = record { slot = block.slot; heap = t.budget.heap; height = block.height };
  keys = all_keys t.tx.message t.loaded;
}

-- the locks of all keys, in their order
abbrev pub locks : Chosen → List Lock
locks t = locks_of t.tx.message t.loaded

-- the message lets the account at a place be written
abbrev pub lets_write : Chosen → ℕ → Bool
lets_write t place = is_writable_at t.tx.message t.loaded place

-- the rights that the message gives the accounts of an instruction
abbrev pub meta_of : Chosen → ℕ → Meta
meta_of t place =
    record { index = place; signer = is_signer_at t.tx.message place; writable = lets_write t place }

abbrev pub call_of : Chosen → Instruction → Call
call_of t i = record { program = i.program; metas = map (meta_of t) i.accounts; input = i.input }

-- what follows the instruction at a place: nothing where it failed
abbrev pub following : ℕ → (List Account → ℕ → ℕ → Log → Executed)
    → Result (List Account) InstructionError → Ending → Executed
following index on (Ok accounts) e = on accounts e.units e.carried.trace e.carried.log
following index on (Err error) e =
    record {
      units = e.units;
      log = e.carried.log;
      result = Err (record { index = index; cause = error.cause; detail = error.detail });
    }

-- the instructions from a place on, each on the values and with the units that the one before left
unfoldable pub executed : Fixed → Chosen → ℕ → List Instruction → List Account → ℕ → ℕ → Log
    → Executed
executed s t index [] accounts units trace log =
    record { units = units; log = log; result = Ok accounts }
executed s t index (i ∷ is) accounts units trace log =
    let e : Ending = instruction s (call_of t i) accounts units trace log in
    following index (executed s t (index + 1) is) e.result e

-- all of them, with the units of the budget
abbrev pub performed : Fixed → Chosen → List Account → Executed
performed s t base = executed s t 0 t.tx.message.instructions base t.budget.limit 0 no_lines
