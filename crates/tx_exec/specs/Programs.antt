-- The programs that run in a transaction, and the accounts of other owners.
use Rattle.std.specs.Prelude.{◌≡◌, ◌≤◌, ◌+◌, ◌==◌, ℕ, false, List, [], ◌∷◌, ◌++◌, slice_get, Some, Result, Ok, Err, if◌then◌else◌}
use Rattle.sol_base.specs.declared.key.Key.{Key}
use Rattle.sol_base.specs.declared.account.Account.{Account}
use Rattle.sol_base.specs.Keys.{has_key}
use Rattle.message_codec.specs.declared.message.Instruction.{Instruction}
use Rattle.tx_report.specs.LogLines.{Log, no_lines}
use Rattle.tx_report.specs.declared.status.InstructionError.{InstructionError}
use Rattle.admission.specs.declared.chosen.Chosen.{Chosen}
use Rattle.invoke_engine.specs.Frame.{Ending, Fixed, instruction}
use Rattle.invoke_engine.specs.Programs.{programs_of_instruction}
use Rattle.tx_exec.specs.Executing.{InBlock, call_of, fixed_for}
use Rattle.tx_exec.specs.Payer.{charged, total_fee}

-- those of the instructions after one that ended so: none where it failed
abbrev pub programs_after : (List Account → ℕ → ℕ → Log → List Key)
    → Result (List Account) InstructionError → Ending → List Key
programs_after on (Ok accounts) e = on accounts e.units e.carried.trace e.carried.log
programs_after on (Err error) e = []

-- those of instructions, each on the values and with the units that the one before left
unfoldable pub programs_of_all : Fixed → Chosen → List Instruction → List Account → ℕ → ℕ → Log
    → List Key
programs_of_all s t [] accounts units trace log = []
programs_of_all s t (i ∷ is) accounts units trace log =
    let e : Ending = instruction s (call_of t i) accounts units trace log in
    programs_of_instruction s (call_of t i) accounts units trace log
    ++ programs_after (programs_of_all s t is) e.result e

-- those of a transaction, once its fee is paid
abbrev pub programs_of : InBlock → Chosen → List Account → List Key
programs_of block t values =
    programs_of_all (fixed_for block t) t t.tx.message.instructions (charged values (total_fee t))
    t.budget.limit 0 no_lines

-- the fee that may be taken from the account at a place: the payer is the first
abbrev pub fee_at : Chosen → ℕ → ℕ
fee_at t place = if place == 0 then total_fee t else 0

-- the account at a place keeps its owner, its data and all its lamports but for the fee
pub record KeepsAllButTheFee (t : Chosen) (place : ℕ) (before after : Account) : Type 0 where
  pub owner : after.owner ≡ before.owner
  pub bytes : after.bytes ≡ before.bytes
  pub lamports : before.lamports ≤ after.lamports + fee_at t place

-- each account does whose owner is none of these programs
abbrev pub KeepsForeign : Chosen → List Key → List Account → List Account → Type 0
KeepsForeign t programs before after =
    (place : ℕ) (was is : Account) → slice_get before place ≡ Some was
    → slice_get after place ≡ Some is → has_key was.owner programs ≡ false
    → KeepsAllButTheFee t place was is
