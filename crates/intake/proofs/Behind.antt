-- What senders passed their gate before.
use Rattle.std.proofs.Common.{◌≡◌, ◌≢◌, ℕ, zero, suc, ◌+◌, ◌%◌, ◌<◌, ◌≤◌, List, ◌∷◌, length, map, filter, Bool, true, false, cond, eqb, eq-eqb, refl, ap, ◌∙◌, subst, arith, All, Result}
use Rattle.std.specs.List.{range_with_len}
use Rattle.std.proofs.lemmas.List.Elements.{All-head, All-push, All-same, All-tail}
use Rattle.std.proofs.Math.Nat.{mod-lt}
use mathlib.Core.Logic.{dite}
use native.Mathlib.Decide.{ℕ_discrete}
use Rattle.sol_base.specs.declared.memory.OutOfMemory.{OutOfMemory}
use Rattle.intake.specs.declared.seats.SendSeat.{SendSeat}
use Rattle.intake.specs.Seats.{sender_of}
use Rattle.intake.specs.Gathering.{share_of}
use Rattle.intake.specs.Passes.{AreSharesBehind, IsShareBehind}
use Rattle.intake.proofs.Gathers.{done_as, done_length, each_done, share_other, share_own, some_of}

-- a share, one position longer
pub behind_more : (gate : ℕ → ℕ → Type 0) (n senders s : ℕ) → IsShareBehind gate n senders s → n % senders ≡ s → gate s n → IsShareBehind gate (n + 1) senders s
behind_more gate n senders s behind own passed = All-same (gate s) (share_of (n + 1) senders s) _ (share_own n senders s own) (All-push (gate s) (share_of n senders s) n behind passed)

pub behind_same : (gate : ℕ → ℕ → Type 0) (n senders s : ℕ) → IsShareBehind gate n senders s → n % senders ≢ s → IsShareBehind gate (n + 1) senders s
behind_same gate n senders s behind other = All-same (gate s) (share_of (n + 1) senders s) (share_of n senders s) (share_other n senders s other) behind

-- what holds of all that a filter keeps holds of each that passes it
kept_tail : (P : ℕ → Type 0) (x : ℕ) (rest : List ℕ) (b : Bool) → All P (cond b (x ∷ rest) rest) → All P rest
kept_tail P x rest true all = All-tail P x rest all
kept_tail P x rest false all = all

kept_at : (P : ℕ → Type 0) (f : ℕ → Bool) (p a n : ℕ) → f p ≡ true → All P (filter f (range_with_len a n)) → a ≤ p → p < a + n → P p
kept_at P f p a zero keeps all le lt = absurd (omega (arith, le, lt))
kept_at P f p a (suc n) keeps all le lt =
    let rest : List ℕ = filter f (range_with_len (a + 1) n) in
    dite (ℕ_discrete a p)
    (λ is. subst P is (All-head P a rest (subst (λ (b : Bool). All P (cond b (a ∷ rest) rest)) (ap f is ∙ keeps) all)))
    (λ not. kept_at P f p (a + 1) n keeps (kept_tail P a rest (f a) all) (omega (arith, le, not)) (omega (arith, lt)))

-- each position is behind the gate of its sender, where all seats came back
pub all_behind : (gate : ℕ → ℕ → Type 0) (count senders : ℕ) (seats done : List SendSeat)
    (sent : List (Result SendSeat OutOfMemory)) → 0 < senders → map sender_of seats ≡ range_with_len 0 senders
    → map done_as done ≡ sent → length sent ≡ length seats
    → AreSharesBehind gate count senders seats sent
    → (p : ℕ) → p < count → gate (p % senders) p
all_behind gate count senders seats done sent some numbered all long each p below =
    let s = p % senders in
    let l = done_length seats done sent senders numbered all long in
    let m = mod-lt p some in
    let lt : s < length done = omega (arith, l, m) in
    kept_at (gate s) (λ q. eqb (q % senders) s) p 0 count (eq-eqb s s refl)
    (each_done (λ t _. IsShareBehind gate count senders t) senders seats done sent numbered all long each s
    (some_of done s lt) lt) (omega arith) (omega (arith, below))
