-- The transactions of a block are a lawful work.
use Rattle.std.proofs.Common.{◌≡◌, ◌≤◌, ◌<◌, ◌∷◌, [], ℕ, zero, suc, List, length, filter, Option, Some, All, refl, sym, ap, subst, ◌∙◌, arith}
use Rattle.std.specs.Prelude.{slice_get}
use Rattle.std.specs.List.{IsDistinct}
use Rattle.std.proofs.lemmas.List.{length-map}
use Rattle.sol_base.specs.declared.account.Account.{Account}
use Rattle.sol_base.specs.declared.lock.Lock.{Lock}
use Rattle.sol_base.specs.Accounts.{AreShort, lamports_in}
use Rattle.message_codec.proofs.RoleLaws.{lock_count, keys_of_locks}
use Rattle.bank_law.specs.Job.{lock_keys, same_key}
use Rattle.bank_law.specs.Lawful.{AreSettled, Fits, IsLawful, lent_for_writing}
use Rattle.admission.specs.declared.chosen.Chosen.{Chosen}
use Rattle.admission.specs.Chosen.{IsChosen}
use Rattle.tx_exec.specs.declared.admitted.AdmittedBlock.{AdmittedBlock}
use Rattle.tx_exec.specs.Executing.{locks}
use Rattle.tx_exec.specs.Transaction.{transaction}
use Rattle.tx_exec.specs.TransactionLaws.{WritesFit}
use Rattle.tx_exec.specs.AdmittedBlock.{block_of, effects_at, job_of, locks_at}
use Rattle.tx_exec.proofs.Keeping.{transaction_fits}

-- a position below the count has its transaction
pub there : (chosen : List Chosen) (i : ℕ) → i < length chosen → All IsChosen chosen → (t : Chosen) × (slice_get chosen i ≡ Some t) × IsChosen t
there [] i below all = absurd (omega (arith, below))
there (t ∷ ts) zero below all = (t, refl, all zero t (omega arith))
there (t ∷ ts) (suc i) below all = there ts i (omega (arith, below)) (λ k d l. all (suc k) d (omega (arith, l)))

-- a fact about one transaction holds of its position
module _ (block : AdmittedBlock) (all : All IsChosen block.chosen) (P : Option Chosen → Type 0) (each : (t : Chosen) → IsChosen t → P (Some t)) where
  pub at_position : (i : ℕ) → i < length block.chosen → P (slice_get block.chosen i)
  at_position i below = let x = there block.chosen i below all in subst P (sym x.1) (each x.0 x.2)

-- ---- one transaction
module _ (block : AdmittedBlock) (t : Chosen) (is : IsChosen t) where
  all_apart : IsDistinct same_key (lock_keys (locks_at (Some t)))
  all_apart =
      subst (λ (ls : List Lock). IsDistinct same_key (lock_keys ls)) (sym is.locked)
      (subst (λ ks. IsDistinct same_key ks) (sym (keys_of_locks t.tx.message t.loaded)) is.apart)

  module _ (vs : List Account) (fits : Fits t.locks vs) where
    lock_beside : length vs ≡ length (locks t)
    lock_beside = fits.one_each ∙ ap length is.locked

    written_fit : WritesFit t vs (transaction (block_of block) t vs)
    written_fit = transaction_fits (block_of block) t vs is (lock_beside ∙ lock_count t.tx.message t.loaded) lock_beside

    written_each : length (effects_at (block_of block) (Some t) vs).written ≡ length (lock_keys (filter (λ lock. lock.write) t.locks))
    written_each =
        written_fit.one_each
        ∙ ap (λ (ls : List Lock). length (filter (λ lock. lock.write) ls)) (sym is.locked)
        ∙ sym (length-map (filter (λ (lock : Lock). lock.write) t.locks) (λ lock. lock.key))

    written_less : lamports_in (effects_at (block_of block) (Some t) vs).written ≤ lamports_in (lent_for_writing t.locks vs)
    written_less = subst (λ (ls : List Lock). lamports_in (effects_at (block_of block) (Some t) vs).written ≤
        lamports_in (lent_for_writing ls vs)) (sym is.locked)
        (let sum = written_fit.lamports in omega (arith, sum))

    written_short : AreShort (effects_at (block_of block) (Some t) vs).written
    written_short = written_fit.short fits.short

    written_settled : AreSettled (effects_at (block_of block) (Some t) vs).written
    written_settled = written_fit.settled

-- ---- the work
pub works_are_lawful : (block : AdmittedBlock) → All IsChosen block.chosen → IsLawful (job_of block)
works_are_lawful block all = record {
  distinct = at_position block all (λ o. IsDistinct same_key (lock_keys (locks_at o))) (λ t is. all_apart block t is);
  one_each = λ i vs below.
      at_position block all (λ o. Fits (locks_at o) vs → length (effects_at (block_of block) o vs).written ≡ length (lock_keys (filter (λ lock. lock.write) (locks_at o))))
      (λ t is fits. written_each block t is vs fits) i below;
  no_more = λ i vs below.
      at_position block all (λ o. Fits (locks_at o) vs → lamports_in (effects_at (block_of block) o vs).written ≤ lamports_in (lent_for_writing (locks_at o) vs))
      (λ t is fits. written_less block t is vs fits) i below;
  short = λ i vs below.
      at_position block all (λ o. Fits (locks_at o) vs → AreShort (effects_at (block_of block) o vs).written)
      (λ t is fits. written_short block t is vs fits) i below;
  settled = λ i vs below.
      at_position block all (λ o. Fits (locks_at o) vs → AreSettled vs → AreSettled (effects_at (block_of block) o vs).written)
      (λ t is fits none. written_settled block t is vs fits) i below;
}
