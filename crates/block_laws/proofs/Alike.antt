-- What transactions come to does not depend on the positions that they have.
use Rattle.std.proofs.Common.{◌≡◌, ◌+◌, ℕ, List, [], ◌∷◌, ◌++◌, map, Option, Some, None, refl, sym, ap, ◌∙◌}
use Rattle.std.specs.Prelude.{nat_lt, option_map, slice_get, if◌then◌else◌}
use Rattle.std.proofs.lemmas.List.{length-map}
use Rattle.std.proofs.lemmas.Option.{slice_get-map}
use Rattle.sol_base.specs.declared.account.Account.{Account}
use Rattle.sol_base.specs.declared.key.Key.{Key}
use Rattle.message_codec.specs.declared.message.Instruction.{Instruction}
use Rattle.message_codec.specs.Roles.{all_keys}
use Rattle.tx_report.specs.LogLines.{Log, no_lines}
use Rattle.tx_report.specs.Statuses.{whole_transaction}
use Rattle.tx_report.specs.declared.cause.Cause.TheVariants.{LoadedDataTooLarge}
use Rattle.tx_report.specs.declared.cause.DropCause.{DropCause}
use Rattle.snapshot_codec.specs.declared.snapshot.Snapshot.{Snapshot}
use Rattle.program_cache.specs.Programs.{programs_of, sought}
use Rattle.admission.specs.declared.chosen.Chosen.{Chosen}
use Rattle.bank_law.specs.Job.{Job}
use Rattle.invoke_engine.specs.Frame.{Ending, Fixed, instruction}
use Rattle.tx_exec.specs.Executing.{InBlock, call_of, executed, fixed_for, following}
use Rattle.tx_exec.specs.Payer.{charged, dropped, total_fee}
use Rattle.tx_exec.specs.AdmittedBlock.{effects_at, job_of, locks_at}
use Rattle.tx_exec.specs.Transaction.{by_drop, data_in, effects_as, failing, ran, transaction}
use Rattle.block_run.specs.SerialRun.{keys_in, ran as ran_by, serial_run, told_in}
use Rattle.block_laws.specs.Again.{renumbered}
use Rattle.block_laws.proofs.Again.{renumbered_alike, unplaced}

executed_alike : (s : Fixed) (t : Chosen) (index : ℕ) (is : List Instruction) (a : List Account)
    (units trace : ℕ) (log : Log)
    → executed s (unplaced t) index is a units trace log ≡ executed s t index is a units trace log
unfolding executed
executed_alike s t index [] a units trace log = refl
executed_alike s t index (i ∷ is) a units trace log =
    let e : Ending = instruction s (call_of t i) a units trace log in
    λ j. following index (λ b u n l. executed_alike s t (index + 1) is b u n l j) e.result e

transaction_alike : (block : InBlock) (t : Chosen) (values : List Account) → transaction block (unplaced t) values ≡ transaction block t values
unfolding transaction
transaction_alike block t values = by_cause (dropped values (total_fee t))
  where
    base : List Account
    base = charged values (total_fee t)

    by_cause : (o : Option DropCause) → by_drop (fixed_for block (unplaced t)) (unplaced t) values o ≡ by_drop (fixed_for block t) t values o
    by_cause (Some cause) = refl
    by_cause None = ap (λ e. if nat_lt t.budget.loaded (data_in (charged values (total_fee t))) then failing t
        (charged values (total_fee t))
        (record { index = whole_transaction; cause = LoadedDataTooLarge; detail = 0 }) 0 [] else ran t
        (charged values (total_fee t)) e)
        (executed_alike (fixed_for block t) t 0 t.tx.message.instructions (charged values (total_fee t)) t.budget.limit 0 no_lines)

locks_alike : (o : Option Chosen) → locks_at (option_map unplaced o) ≡ locks_at o
locks_alike None = refl
locks_alike (Some t) = refl

effects_alike : (block : InBlock) (o : Option Chosen) (values : List Account) → effects_at block (option_map unplaced o) values ≡ effects_at block o values
effects_alike block None values = refl
effects_alike block (Some t) values = ap (effects_as t) (transaction_alike block t values)

keys_alike : (ts : List Chosen) → keys_in (map unplaced ts) ≡ keys_in ts
keys_alike [] = refl
keys_alike (t ∷ ts) = ap (λ (ks : List Key). all_keys t.tx.message t.loaded ++ ks) (keys_alike ts)

module _ (s : Snapshot) (slot : ℕ) (ts : List Chosen) where
  block_by : List Key → InBlock
  block_by ks = record { programs = sought (programs_of s.accounts ks); slot = slot; height = s.limits.height }

  same_locks : (i : ℕ) → locks_at (slice_get (map unplaced ts) i) ≡ locks_at (slice_get ts i)
  same_locks i = ap locks_at (slice_get-map unplaced ts i) ∙ locks_alike (slice_get ts i)

  same_effects : (i : ℕ) (values : List Account) → (job_of (told_in s slot (map unplaced ts))).effects i values ≡ (job_of (told_in s slot ts)).effects i values
  unfolding block_by
  same_effects i values =
      ap (λ (ks : List Key). effects_at (block_by ks) (slice_get (map unplaced ts) i) values) (keys_alike ts)
      ∙ ap (λ (o : Option Chosen). effects_at (block_by (keys_in ts)) o values) (slice_get-map unplaced ts i)
      ∙ effects_alike (block_by (keys_in ts)) (slice_get ts i) values

  same_job : job_of (told_in s slot (map unplaced ts)) ≡ job_of (told_in s slot ts)
  same_job = λ j. record { count = length-map ts unplaced j; locks = λ i. same_locks i j; effects = λ i values. same_effects i values j }

  unplaced_run : serial_run s slot (map unplaced ts) ≡ serial_run s slot ts
  unfolding serial_run
  unplaced_run = ap (λ (job : Job). ran_by job s.accounts) same_job

-- a run is the same wherever its transactions stand
pub renumbered_run : (s : Snapshot) (slot n : ℕ) (ts : List Chosen) → serial_run s slot (renumbered n ts) ≡ serial_run s slot ts
renumbered_run s slot n ts = sym (unplaced_run s slot (renumbered n ts)) ∙ ap (serial_run s slot) (renumbered_alike n ts) ∙ unplaced_run s slot ts
