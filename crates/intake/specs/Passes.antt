-- What a sender has passed its gate before.
use Rattle.std.specs.Prelude.{◌≡◌, ℕ, ◌<◌, List, length, All, Result, IfOk, slice_index_or}
use Rattle.sol_base.specs.declared.memory.OutOfMemory.{OutOfMemory}
use Rattle.intake.specs.declared.gate.Passes.{Passes}
use Rattle.intake.specs.declared.seats.SendSeat.{SendSeat}
use Rattle.intake.specs.Gathering.{share_of}
use Rattle.intake.specs.Seats.{sender_of}

-- nothing yet
abbrev pub no_passes : ℕ → ℕ → Passes
no_passes sender senders = record { sender = sender; senders = senders; below = 0 }

-- its share of the positions below one
abbrev pub passed_below : Passes → ℕ → Passes
passed_below passes below = record passes { below = below }

-- the positions before which it has passed the gate, in that order
abbrev pub passed_by : Passes → List ℕ
passed_by passes = share_of passes.below passes.senders passes.sender

-- sender s has passed this gate before each position of its share of so many, where `gate` is what
-- holds of a sender and a position once the gate was passed
abbrev pub IsShareBehind : (ℕ → ℕ → Type 0) → ℕ → ℕ → ℕ → Type 0
IsShareBehind gate count senders s = All (gate s) (share_of count senders s)

-- by this record it has passed the gate before each position of its share of so many, and before
-- no other; and it is this gate that it has passed
abbrev pub HasPassedShare : (ℕ → ℕ → Type 0) → ℕ → ℕ → ℕ → Passes → Type 0
HasPassedShare gate count senders s passes =
    (passed_by passes ≡ share_of count senders s) × IsShareBehind gate count senders s

-- so has the sender of each of these seats that came back
abbrev pub AreSharesBehind : (ℕ → ℕ → Type 0) → ℕ → ℕ → List SendSeat
    → List (Result SendSeat OutOfMemory) → Type 0
AreSharesBehind gate count senders seats sent =
    (i : ℕ) (d : SendSeat) (r : Result SendSeat OutOfMemory) → i < length seats
    → IfOk (slice_index_or sent i r)
    (λ _. IsShareBehind gate count senders (sender_of (slice_index_or seats i d)))
