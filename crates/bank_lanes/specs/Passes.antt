-- What lanes do to their pass.
use Rattle.std.specs.Prelude.{◌≡◌, ℕ, List, true, false, None}
use mathlib.Core.List.{IsPrefix}
use Rattle.bank_law.specs.History.{PassView, own, holds, returns}
use Rattle.sol_base.specs.Accounts.{accounts_of}
use Rattle.bank_core.specs.declared.loan.Loan.{Loan}
use Rattle.bank_core.specs.Lanes.{is_one_of}
use Rattle.bank_core.specs.Desks.{LoanView, SeesNoneOf}
use Rattle.bank_lanes.specs.Gates.{AreBehind}

-- the lane holds nothing, and has given nothing back
pub record IsIdle (v : PassView) : Type 0 where
  pub free : holds v.mine ≡ None
  pub once : returns v.mine ≡ 0

-- the lane stays, more may be seen, and the lane holds nothing
pub record WentOn (v w : PassView) : Type 0 where
  pub lane : w.lane ≡ v.lane
  pub longer : IsPrefix v.seen w.seen
  pub free : holds w.mine ≡ None

-- no lane of a pass holds anything
abbrev pub HoldsNothing : List ℕ → PassView → Type 0
HoldsNothing lanes v = (lane : ℕ) → is_one_of lanes lane ≡ true → holds (own v.seen lane) ≡ None

-- a lane of the pass holds nothing where it held nothing before, or is new
abbrev pub StaysFree : List ℕ → PassView → List ℕ → PassView → Type 0
StaysFree old v new w =
    (lane : ℕ) → is_one_of new lane ≡ true
    → (is_one_of old lane ≡ true → holds (own v.seen lane) ≡ None)
    → holds (own w.seen lane) ≡ None

-- the lane's own events are those that the history has of it
abbrev pub AreItsOwn : PassView → Type 0
AreItsOwn v = v.mine ≡ own v.seen v.lane

-- all that the lanes of a pass have committed is behind this gate
abbrev pub CommitBehind : (ℕ → ℕ → Type 0) → List ℕ → PassView → Type 0
CommitBehind gate lanes v =
    (lane : ℕ) → is_one_of lanes lane ≡ true → AreBehind gate (own v.seen lane)

-- a lane of the pass has committed nothing but behind this gate where that was so before, or is new
abbrev pub StaysBehind : (ℕ → ℕ → Type 0) → List ℕ → PassView → List ℕ → PassView → Type 0
StaysBehind gate old v new w =
    (lane : ℕ) → is_one_of new lane ≡ true
    → (is_one_of old lane ≡ true → AreBehind gate (own v.seen lane))
    → AreBehind gate (own w.seen lane)

-- the lanes stay, more may be seen, of lanes but these of its own nothing is added, and nothing is
-- committed but behind this gate
pub record KeepsTo (gate : ℕ → ℕ → Type 0) (mine old : List ℕ) (v : PassView) (new : List ℕ)
    (w : PassView) : Type 0 where
  pub lane : w.lane ≡ v.lane
  pub lanes : new ≡ old
  pub longer : IsPrefix v.seen w.seen
  pub others : (lane : ℕ) → is_one_of old lane ≡ true → is_one_of mine lane ≡ false
      → own w.seen lane ≡ own v.seen lane
  pub behind : StaysBehind gate old v new w

-- further lanes may be drawn that hold nothing, more may be seen, and of the lanes nothing is added
pub record Widened (gate : ℕ → ℕ → Type 0) (old : List ℕ) (v : PassView) (new : List ℕ)
    (w : PassView) : Type 0 where
  pub lane : w.lane ≡ v.lane
  pub longer : IsPrefix v.seen w.seen
  pub mine : w.mine ≡ v.mine
  pub more : (lane : ℕ) → is_one_of old lane ≡ true → is_one_of new lane ≡ true
  pub each : SeesNoneOf old v w
  pub free : StaysFree old v new w
  pub behind : StaysBehind gate old v new w

-- a desk sees of its loans what they are
module _ {W T : Type 0} {G : _} where
  abbrev pub SeesLoans : (Loan W T G → LoanView T) → Type 0
  SeesLoans seen =
      (l : Loan W T G) → seen l ≡ record {
        position = l.position;
        lane = l.lane;
        origin = l.origin.value;
        values = accounts_of l.values.items;
      }
