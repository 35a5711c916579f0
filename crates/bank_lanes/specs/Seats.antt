-- The seats of the lanes in a wave.
use Rattle.std.specs.Prelude.{◌≡◌, ℕ, ◌<◌, List, length, map, slice_index_or, Option, Some, None, IfSome, MatchOption, Bool, true, false, not}
use Rattle.std.specs.List.{list_any, AllWithin, HoldsAt}
use Rattle.bank_law.specs.declared.event.Event.{Event}
use Rattle.bank_law.specs.declared.event.EventKind.TheVariants.{Grant}
use Rattle.bank_law.specs.Job.{Job}
use Rattle.bank_law.specs.History.{own, returns}
use Rattle.sol_base.specs.Accounts.{accounts_of}
use Rattle.bank_core.specs.declared.loan.Loan.{Loan}
use Rattle.bank_core.specs.declared.origin.Origin.{Origin}
use Rattle.bank_core.specs.Effects.{effects_seen}
use Rattle.bank_core.specs.Origins.{IsLeastReadyAfter}
use Rattle.bank_core.specs.Takes.{HasLoanOf}
use Rattle.bank_lanes.specs.Gates.{HasJustPassed, HasNoPasses, HasPassedOnce, IsBehind}
use Rattle.bank_lanes.specs.declared.gate.Passes.{Passes}
use Rattle.bank_lanes.specs.declared.seats.Seat.{Seat}

module _ {W T : Type 0} {G : _} where
  -- nothing is lent to it
  abbrev pub IsEmptySeat : Seat W T G → Type 0
  IsEmptySeat seat = seat.loan ≡ None

  -- the seat of a lane that was lent nothing yet
  pub record IsNewSeat (lane : ℕ) (seat : Seat W T G) : Type 0 where
    pub empty : IsEmptySeat seat
    pub unperformed : seat.effects ≡ None
    pub kept : seat.gave_back ≡ false
    pub passes : HasNoPasses lane seat.passes

  -- each lane has a new seat
  abbrev pub AreNewSeats : List (Seat W T G) → Type 0
  AreNewSeats seats =
      (lane : ℕ) (d : Seat W T G) → lane < length seats
      → IsNewSeat lane (slice_index_or seats lane d)

  -- this gate is passed once for the loan, if there is one
  abbrev pub PassesIts : (ℕ → ℕ → Type 0) → Option (Loan W T G) → Passes → Passes → Type 0
  PassesIts gate None old new = new ≡ old
  PassesIts gate (Some loan) old new = HasPassedOnce gate old loan.position new

  -- The seat of a lane: it has what the lane holds by the journal, the lane has given something back
  -- only where the seat says so, and then it is empty. Its passes are the lane's.
  pub record IsSeatOf (seat : Seat W T G) (origin : Origin T) (journal : List Event)
      (lane : ℕ) : Type 0 where
    pub loan : HasLoanOf seat.loan origin journal lane
    pub once : seat.gave_back ≡ false → returns (own journal lane) ≡ 0
    pub out : seat.gave_back ≡ true → IsEmptySeat seat
    pub passes : seat.passes.lane ≡ lane

  -- each lane has its seat
  abbrev pub AreSeats : List (Seat W T G) → Origin T → List Event → Type 0
  AreSeats seats origin journal =
      (lane : ℕ) (d : Seat W T G) → lane < length seats
      → IsSeatOf (slice_index_or seats lane d) origin journal lane

  -- what was lent to the seat is the position that was the least ready
  abbrev pub HasLeast : (T → Job) → Origin T → List Event → Seat W T G → Type 0
  HasLeast job origin journal seat =
      MatchOption seat.loan ⊥ (λ loan. IsLeastReadyAfter job origin journal loan.position)

  -- nothing was lent to it and nothing happened, and no position was ready but one that reads an
  -- account
  pub record LendsNone (job : T → Job) (origin : Origin T) (old new : List Event)
      (seat : Seat W T G) : Type 0 where
    pub empty : IsEmptySeat seat
    pub same : new ≡ old
    pub reads : (i : ℕ) → IsLeastReadyAfter job origin old i
        → list_any (λ lock. not lock.write) ((job origin.told).locks i) ≡ true

  -- what is lent to the seats, which of them gave something back, and whose passes they have
  abbrev pub sitting : List (Seat W T G) → List (Option (Loan W T G) × Bool × ℕ)
  sitting seats = map (λ seat. (seat.loan, seat.gave_back, seat.passes.lane)) seats

  -- the loan in a seat, if there is one, is of a core whose work told this
  abbrev pub IsLoanOfWork : T → Seat W T G → Type 0
  IsLoanOfWork told seat = IfSome seat.loan (λ loan. loan.origin.value.told ≡ told)

  -- the effects in a seat are those of its loan, for which a gate was passed
  abbrev pub HasItsEffects : Job → Seat W T G → Type 0
  HasItsEffects job seat =
      IfSome seat.loan (λ loan. IfSome seat.effects (λ effects.
      (effects_seen effects ≡ job.effects loan.position (accounts_of loan.values.items))
      × HasJustPassed loan.position seat.passes))

  -- the lane has passed this gate for the loan of which the seat has effects
  abbrev pub IsBehindIts : (ℕ → ℕ → Type 0) → Seat W T G → Type 0
  IsBehindIts gate seat =
      IfSome seat.loan (λ loan. IfSome seat.effects (λ effects. gate seat.passes.lane loan.position))

  -- the effects in a seat are those of its loan, for which this gate was passed
  pub record IsPerformed (gate : ℕ → ℕ → Type 0) (job : Job) (seat : Seat W T G) : Type 0 where
    pub right : HasItsEffects job seat
    pub behind : IsBehindIts gate seat

  -- the seat has the effects of its loan, which is of this position
  abbrev pub HasPerformed : ℕ → Seat W T G → Type 0
  HasPerformed position seat =
      MatchOption seat.loan ⊥ (λ loan. MatchOption seat.effects ⊥ (λ effects.
      loan.position ≡ position))

  -- the seat of this lane has the effects of its loan, which is of this position
  abbrev pub HasPerformedAt : List (Seat W T G) → ℕ → ℕ → Type 0
  HasPerformedAt seats lane position =
      (lane < length seats) × HoldsAt (HasPerformed position) seats lane

-- each event that is new is a grant
abbrev pub GrantsAlone : List Event → List Event → Type 0
GrantsAlone old new = AllWithin (λ event. event.kind ≡ Grant) new (length old) (length new)

-- what a new event commits, by its lane and its position, is one of these
abbrev pub CommitsAlone : (ℕ → ℕ → Type 0) → List Event → List Event → Type 0
CommitsAlone these old new = AllWithin (IsBehind these) new (length old) (length new)
