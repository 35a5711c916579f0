-- A lane to which nothing is lent: the least ready position, if there is one, reads an account.
use Rattle.std.proofs.Common.{◌≡◌, ℕ, true, not, subst, inl, inr, arith}
use Rattle.std.specs.List.{list_any}
use Rattle.std.proofs.lemmas.Bool.{cases_lt}
use Rattle.bank_law.specs.Job.{Job}
use Rattle.bank_law.specs.Machine.{Stage, waiting, held, done, State, AllDone, IsLeastReady, is_done, is_waiting}
use Rattle.bank_core.specs.Takes.{IsNotNow, ReadsLeast}

module _ (job : Job) (s : State) where
  abbrev Reads : ℕ → Type 0
  Reads i = list_any (λ lock. not lock.write) (job.locks i) ≡ true

  pub reads_not_now : (n : ℕ) → IsNotNow job s n → (i : ℕ) → IsLeastReady job s i → Reads i
  reads_not_now n now i least = absurd (now.none_ready i least.ready)

  pub reads_done : AllDone job s → (i : ℕ) → IsLeastReady job s i → Reads i
  reads_done all i least = absurd (both (s.stage i) (all i least.ready.below) least.ready.waits)
    where
      both : (g : Stage) → is_done g ≡ true → is_waiting g ≡ true → ⊥
      both waiting d w = absurd (cc d)
      both (held lane vs) d w = absurd (cc d)
      both (done outcome) d w = absurd (cc w)

  pub reads_least : ReadsLeast job s → (i : ℕ) → IsLeastReady job s i → Reads i
  reads_least r i least = elim (cases_lt i r.position) [
    | inl before ↦ absurd (r.least.least i before least.ready)
    | inr from ↦ elim (cases_lt r.position i) [
      | inl before ↦ absurd (least.least r.position before r.least.ready)
      | inr to ↦ subst Reads (omega (arith, from, to)) r.reads
    ]
  ]
