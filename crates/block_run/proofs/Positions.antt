-- What holds of each position of the transactions of a block.
use Rattle.std.proofs.Common.{◌≡◌, ◌≤◌, ◌<◌, ◌+◌, ◌*◌, ◌∷◌, [], ◌++◌, ℕ, zero, suc, Bool, true, false, cond, List, length, filter, Option, Some, All, sym, ap, subst, ◌∙◌, arith, length-append}
use Rattle.std.specs.Prelude.{slice_get, sum_by}
use Rattle.std.proofs.lemmas.List.{length-map}
use Rattle.sol_base.specs.declared.key.Key.{Key}
use Rattle.sol_base.specs.declared.account.Account.{Account}
use Rattle.sol_base.specs.declared.lock.Lock.{Lock}
use Rattle.sol_base.specs.Accounts.{lamports_in}
use Rattle.sol_base.specs.Limits.{max_transaction_keys}
use Rattle.message_codec.specs.Roles.{all_keys, load_count}
use Rattle.message_codec.proofs.RoleLaws.{lock_count}
use Rattle.bank_law.specs.Job.{Job, JobEffects, write_keys}
use Rattle.bank_law.specs.Lawful.{lent_for_writing}
use Rattle.bank_core.specs.Counts.{locks_before}
use Rattle.bank_core.specs.Openings.{AreNumbered}
use Rattle.prio_graph.specs.Ready.{Positions}
use Rattle.block_run.specs.SerialRun.{locked_in}
use Rattle.admission.specs.declared.chosen.Chosen.{Chosen}
use Rattle.admission.specs.Chosen.{IsChosen}
use Rattle.tx_exec.specs.declared.admitted.AdmittedBlock.{AdmittedBlock}
use Rattle.tx_exec.specs.AdmittedBlock.{block_of, effects_at, job_of, locks_at}
use Rattle.tx_report.specs.Outcomes.{IsSmallOutcome}
use Rattle.tx_exec.proofs.Keeping.{transaction_fits}
use Rattle.tx_exec.proofs.Small.{transaction_small}
use Rattle.tx_exec.proofs.Works.{there}
use Rattle.spec_base.proofs.Lists.{length-filter-most}
use Rattle.tx_exec.proofs.Fitting.{keys_few}

-- what holds of each transaction holds of its position
pub at_position : (admitted : AdmittedBlock) → All IsChosen admitted.chosen → (P : Option Chosen → Type 0)
    → ((t : Chosen) → IsChosen t → P (Some t)) → (i : ℕ) → i < length admitted.chosen
    → P (slice_get admitted.chosen i)
at_position admitted all P each i below = let x = there admitted.chosen i below all in subst P (sym x.1) (each x.0 x.2)

-- and as many locks
few_locks : (t : Chosen) → IsChosen t → length t.locks ≤ max_transaction_keys
few_locks t is =
    let a = ap length is.locked in
    let b = lock_count t.tx.message t.loaded in
    let c = keys_few t is in
    omega (arith, a, b, c)

-- what effects paid
abbrev pub paid_in : JobEffects → ℕ
paid_in effects = effects.outcome.base_paid + effects.outcome.priority_paid

-- with the fees paid, what a transaction writes has the lamports that were lent for writing
pays : (admitted : AdmittedBlock) (t : Chosen) → IsChosen t → (vs : List Account) → length vs ≡ length t.locks
    → lamports_in (effects_at (block_of admitted) (Some t) vs).written + paid_in (effects_at (block_of admitted) (Some t) vs) ≡ lamports_in (lent_for_writing t.locks vs)
pays admitted t is vs count =
    let fits = transaction_fits (block_of admitted) t vs is (count ∙ ap length is.locked ∙ lock_count t.tx.message t.loaded) (count ∙ ap length is.locked) in
    let a = fits.lamports in
    let b = ap (λ (ls : List Lock). lamports_in (lent_for_writing ls vs)) is.locked in
    omega (arith, a, b)

module _ (admitted : AdmittedBlock) (all : All IsChosen admitted.chosen) where
  pub locks_most : (i : ℕ) → i < length admitted.chosen → length ((job_of admitted).locks i) ≤ max_transaction_keys
  locks_most = at_position admitted all (λ o. length (locks_at o) ≤ max_transaction_keys) few_locks

  pub position_pays : (i : ℕ) → i < length admitted.chosen → (vs : List Account) → length vs ≡ length ((job_of admitted).locks i)
      → lamports_in ((job_of admitted).effects i vs).written + paid_in ((job_of admitted).effects i vs) ≡ lamports_in (lent_for_writing ((job_of admitted).locks i) vs)
  position_pays i l vs = at_position admitted all
      (λ o. length vs ≡ length (locks_at o)
      → lamports_in (effects_at (block_of admitted) o vs).written + paid_in
      (effects_at (block_of admitted) o vs) ≡ lamports_in (lent_for_writing (locks_at o) vs))
      (λ t is. pays admitted t is vs) i l

  pub position_is_small : (i : ℕ) → i < length admitted.chosen → (vs : List Account) → IsSmallOutcome ((job_of admitted).effects i vs).outcome
  position_is_small i l vs = at_position admitted all (λ o. IsSmallOutcome (effects_at (block_of admitted) o vs).outcome) (λ t is. transaction_small (block_of admitted) t vs is) i l

-- no more keys are written than there are locks
pub written_keys_few : (job : Job) (i : ℕ) → length (write_keys job i) ≤ length (job.locks i)
written_keys_few job i =
    let a = length-map (filter (λ (lock : Lock). lock.write) (job.locks i)) (λ lock. lock.key) in
    let b = length-filter-most (λ (lock : Lock). lock.write) (job.locks i) in
    omega (arith, a, b)

-- the keys that transactions lock are numbered alike in every work of them
pub numbered_alike : (admitted : AdmittedBlock) (order : List Chosen) (ks : List Key) (p : Positions) (room : ℕ)
    → admitted.chosen ≡ order → AreNumbered (job_of (locked_in order)) ks p room
    → AreNumbered (job_of admitted) ks p room
numbered_alike admitted order ks p room same are =
    let n = subst (λ (o : List Chosen). AreNumbered (job_of (locked_in o)) ks p room) (sym same) are in
    record { distinct = n.distinct; waiting = n.waiting; long = n.long; numbered = n.numbered; wide = n.wide }
