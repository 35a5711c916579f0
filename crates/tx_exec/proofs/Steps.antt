-- How the instructions go on, one after another.
use Rattle.std.proofs.Common.{◌≡◌, ◌≤◌, ◌<◌, ◌+◌, ℕ, List, length, drop, get_or, Bool, true, false, Result, Ok, Err, refl, sym, ap, subst, ◌∙◌, arith, if◌then◌else◌}
use Rattle.std.specs.Prelude.{nat_le}
use Rattle.std.specs.declared.sync.Arc.{Arc}
use Rattle.std.specs.declared.alloc.Global.{Global}
use Rattle.std.proofs.lemmas.List.{drop_more, drop_all}
use Rattle.std.proofs.lemmas.Bool.Decides.{nat_tests}
use Rattle.sol_base.specs.declared.account.Account.{Account}
use Rattle.sol_base.specs.Accounts.{accounts_of}
use Rattle.message_codec.specs.declared.message.Instruction.{Instruction}
use Rattle.message_codec.specs.Roles.{AreNamed, all_keys}
use Rattle.tx_report.specs.LogLines.{Log}
use Rattle.tx_report.specs.declared.status.InstructionError.{InstructionError}
use Rattle.admission.specs.declared.chosen.Chosen.{Chosen}
use Rattle.invoke_engine.specs.declared.call.Ended.TheVariants.{Good, Failed}
use Rattle.invoke_engine.specs.declared.call.Ran.{Ran}
use Rattle.invoke_engine.specs.Frame.{Ending, Fixed, instruction}
use Rattle.invoke_engine.specs.Conditions.{AreAccountsOf}
use Rattle.invoke_engine.specs.Ran.{IsRun, result_as}
use Rattle.invoke_engine.proofs.Traces.{instruction_counts}
use Rattle.invoke_engine.specs.Frames.{max_trace}
use Rattle.tx_exec.specs.Executing.{Executed, call_of, executed, following, performed}
use Rattle.tx_exec.proofs.Keeping.{GoodKeeps, instruction_keeps}

-- where the loop over the instructions stands
pub record Stands (s : Fixed) (t : Chosen) (base : List Account) (index : ℕ) (accounts : List Account) (units trace : ℕ) (log : Log) : Type 0 where
  pub same : executed s t index (drop index t.tx.message.instructions) accounts units trace log ≡ performed s t base
  pub given : AreAccountsOf (length s.keys) accounts
  pub counted : index ≤ trace

-- all instructions ended well
pub all_done : (s : Fixed) (t : Chosen) (base : List Account) (index : ℕ) (accounts : List Account)
    (units trace : ℕ) (log : Log) → Stands s t base index accounts units trace log
    → length t.tx.message.instructions ≤ index
    → performed s t base ≡ record { units = units; log = log; result = Ok accounts }
unfolding executed
all_done s t base index accounts units trace log stands past = sym stands.same ∙ rw (drop_all index t.tx.message.instructions past) refl

go_on : (index : ℕ) (on : List Account → ℕ → ℕ → Log → Executed) (e : Ending) (ran : Ran) (after : List (Arc Account Global)) (log : Log) → IsRun e ran log → ran.ended ≡ Good after
    → following index on e.result e ≡ on (accounts_of after) ran.units ran.trace log
go_on index on e ran after log run good =
    let r : e.result ≡ Ok (accounts_of after) = sym run.ended ∙ ap result_as good in
    rw (r, run.units, run.trace, run.lines) refl

stop : (index : ℕ) (on : List Account → ℕ → ℕ → Log → Executed) (e : Ending) (ran : Ran) (error : InstructionError) (log : Log) → IsRun e ran log → ran.ended ≡ Failed error
    → following index on e.result e ≡ record { units = ran.units; log = log; result = Err (record { index = index; cause = error.cause; detail = error.detail }) }
stop index on e ran error log run failed =
    let r : e.result ≡ Err error = sym run.ended ∙ ap result_as failed in
    rw (r, run.units, run.lines) refl

-- an error is no good end
pub refused : {error : InstructionError} {after : List Account} → (let r : Result (List Account) InstructionError = Err error in r) ≡ Ok after → ⊥
refused e = absurd (cc)

pub late : (b : Bool) (x y : Ending) (after : List Account) → (let e : Ending = if b then x else y in e.result) ≡ Ok after → b ≡ true → x.result ≡ Ok after
late true x y after h e = h
late false x y after h e = absurd (cc)

module _ (s : Fixed) (t : Chosen) (keys : s.keys ≡ all_keys t.tx.message t.loaded) (base : List Account)
    (index : ℕ) (accounts : List Account) (units trace : ℕ) (log : Log)
    (stands : Stands s t base index accounts units trace log) (i : Instruction)
    (below : index < length t.tx.message.instructions) (here : i ≡ get_or t.tx.message.instructions index i)
  where
    abbrev pub ending : Ending
    ending = instruction s (call_of t i) accounts units trace log

    next : performed s t base ≡ following index (executed s t (index + 1) (drop (index + 1) t.tx.message.instructions)) ending.result ending
    unfolding executed
    next = sym stands.same ∙ rw (drop_more t.tx.message.instructions index i below, ← here) refl

    module _ (named : AreNamed t.tx.message t.loaded i) (ran : Ran) (log' : Log) (run : IsRun ending ran log') where
      -- the 65th is not started
      no_start : {after : List Account} → nat_le max_trace trace ≡ true → ending.result ≡ Ok after → ⊥
      no_start {after} e good = refused (late (nat_le max_trace trace) _ _ after good e)

      kept : GoodKeeps t accounts ending.result
      kept = instruction_keeps s t i accounts units trace log keys named.accounts (stands.given.count ∙ ap length keys)

      counts : (after : List Account) → ending.result ≡ Ok after → index + 1 ≤ ran.trace
      counts after good = by_test (nat_le max_trace trace) refl
        where
          by_test : (b : Bool) → nat_le max_trace trace ≡ b → index + 1 ≤ ran.trace
          by_test true e = absurd (no_start e good)
          by_test false e =
              let few : trace < max_trace = grind (arith, nat_tests) in
              let more = instruction_counts s (call_of t i) accounts units trace log few in
              let same = run.trace in
              let old = stands.counted in
              omega (arith, more, same, old)

      pub good : (after : List (Arc Account Global)) → ran.ended ≡ Good after → Stands s t base (index + 1) (accounts_of after) ran.units ran.trace log'
      good after well =
          let r : ending.result ≡ Ok (accounts_of after) = sym run.ended ∙ ap result_as well in
          let k = subst (λ (result : Result (List Account) InstructionError). GoodKeeps t accounts result) r kept in
          let lamports = k.lamports in
          let supply = stands.given.supply in
          record {
            same = sym (go_on index _ ending ran after log' run well) ∙ sym next;
            given = record { count = k.count ∙ stands.given.count; short = k.short stands.given.short; supply = omega (arith, lamports, supply) };
            counted = counts (accounts_of after) r;
          }

      pub bad : (error : InstructionError) → ran.ended ≡ Failed error
          → performed s t base ≡ record {
            units = ran.units;
            log = log';
            result = Err
                (record { index = index; cause = error.cause; detail = error.detail });
          }
      bad error failed = next ∙ stop index _ ending ran error log' run failed
