-- What a take may answer.
use Rattle.std.specs.Prelude.{◌≡◌, ℕ, ◌<◌, ◌≤◌, List, true, not, Option, Some, None}
use Rattle.std.specs.List.{list_any}
use Rattle.bank_law.specs.declared.event.Event.{Event}
use Rattle.bank_law.specs.Job.{Job}
use Rattle.bank_law.specs.Machine.{State, Ready, IsLeastReady, held_count}
use Rattle.bank_law.specs.History.{own, holds}
use Rattle.bank_core.specs.declared.origin.Origin.{Origin}
use Rattle.bank_core.specs.Origins.{state_after}
use Rattle.bank_core.specs.declared.loan.Loan.{Loan}
use Rattle.bank_core.specs.declared.loan.Take.{Take}
use Rattle.bank_core.specs.declared.loan.Take.TheVariants as take
use Rattle.bank_core.specs.declared.offer.Offer.{Offer}
use Rattle.bank_core.specs.declared.offer.Offer.TheVariants as offer

-- no position is ready, and so many are held, at least one
pub record IsNotNow (job : Job) (s : State) (held : ℕ) : Type 0 where
  pub none_ready : (i : ℕ) → Ready job s i → ⊥
  pub held_is : held ≡ held_count job s
  pub some : 1 ≤ held

-- one of the lanes holds a position, by the journal
pub record SomeLaneHolds (lanes : ℕ) (journal : List Event) : Type 0 where
  pub lane : ℕ
  pub below : lane < lanes
  pub position : ℕ
  pub is_held : holds (own journal lane) ≡ Some position

-- the least ready position has a read lock
pub record ReadsLeast (job : Job) (s : State) : Type 0 where
  pub position : ℕ
  pub least : IsLeastReady job s position
  pub reads : list_any (λ lock. not lock.write) (job.locks position) ≡ true

-- facts of a take, by the origin and the journal of a core
module _ {T : Type 0} (job : T → Job) (origin : Origin T) where
  abbrev pub IsNotNowAfter : List Event → ℕ → Type 0
  IsNotNowAfter events held = IsNotNow (job origin.told) (state_after job origin events) held

  abbrev pub ReadsLeastAfter : List Event → Type 0
  ReadsLeastAfter events = ReadsLeast (job origin.told) (state_after job origin events)

-- a fact for each answer of a take
module _ {W T : Type 0} {G : _} where
  abbrev pub MatchTake : Take W T G → (Loan W T G → Type 0) → (ℕ → Type 0) → Type 0 → Type 0
      → Type 0
  MatchTake (take.Loan loan) f g h short = f loan
  MatchTake (take.NotNow held) f g h short = g held
  MatchTake take.Finished f g h short = h
  MatchTake take.OutOfMemory f g h short = short

-- a fact for each thing that a core may have for a lane
abbrev pub MatchOffer : Offer → Type 0 → Type 0 → Type 0 → Type 0
MatchOffer offer.Ready f g h = f
MatchOffer offer.NotNow f g h = g
MatchOffer offer.Finished f g h = h

-- the loan that a lane has, if any, is of this core, and its position is the one that the lane
-- holds
module _ {W T : Type 0} {G : _} where
  abbrev pub HasLoanOf : Option (Loan W T G) → Origin T → List Event → ℕ → Type 0
  HasLoanOf None origin journal lane = holds (own journal lane) ≡ None
  HasLoanOf (Some loan) origin journal lane =
      (loan.lane ≡ lane) × (loan.origin.value ≡ origin)
      × (holds (own journal lane) ≡ Some loan.position)

-- the events of the other lanes stay
abbrev pub KeepsOthers : List Event → List Event → ℕ → Type 0
KeepsOthers old new lane = (other : ℕ) → (lane ≡ other → ⊥) → own new other ≡ own old other
