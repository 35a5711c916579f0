-- The log of a transaction has grown by the lines of its instructions.
use Rattle.std.proofs.Common.{◌+◌, ℕ, List, [], ◌∷◌, Result, Ok, Err}
use Rattle.sol_base.specs.declared.account.Account.{Account}
use Rattle.message_codec.specs.declared.message.Instruction.{Instruction}
use Rattle.tx_report.specs.LogLines.{HasGrown, Log, no_lines}
use Rattle.tx_report.specs.declared.status.InstructionError.{InstructionError}
use Rattle.tx_report.proofs.GrownLogs.{HasGrown-none}
use Rattle.admission.specs.declared.chosen.Chosen.{Chosen}
use Rattle.invoke_engine.specs.Frame.{Ending, Fixed, instruction}
use Rattle.invoke_engine.proofs.GrownLogs.{log_grows}
use Rattle.tx_exec.specs.Executing.{Executed, call_of, executed, following, performed}

follow_grows : (before : Log) (index : ℕ) (on : List Account → ℕ → ℕ → Log → Executed) (result : Result (List Account) InstructionError) (e : Ending) →
    ((b : List Account) (units trace : ℕ) (log : Log) → HasGrown before log
    → HasGrown before (on b units trace log).log) → HasGrown before e.carried.log
    → HasGrown before (following index on result e).log
follow_grows before index on (Ok b) e all grown = all b e.units e.carried.trace e.carried.log grown
follow_grows before index on (Err error) e all grown = grown

executed_grows : (before : Log) (s : Fixed) (t : Chosen) (index : ℕ) (is : List Instruction) (a : List Account)
    (units trace : ℕ) (log : Log) → HasGrown before log
    → HasGrown before (executed s t index is a units trace log).log
unfolding executed
executed_grows before s t index [] a units trace log grown = grown
executed_grows before s t index (i ∷ is) a units trace log grown =
    follow_grows before index (executed s t (index + 1) is) _ (instruction s (call_of t i) a units trace log)
    (λ b u n l k. executed_grows before s t (index + 1) is b u n l k)
    (log_grows before s (call_of t i) a units trace log grown)

pub performed_grows : (s : Fixed) (t : Chosen) (base : List Account) → HasGrown no_lines (performed s t base).log
performed_grows s t base = executed_grows no_lines s t 0 t.tx.message.instructions base t.budget.limit 0 no_lines (HasGrown-none no_lines)
