-- The frames that wait for a function that they called.
use Rattle.std.proofs.Common.{◌≡◌, ◌<◌, ◌+◌, ◌⊎◌, inl, inr, ⊎_elim, ℕ, zero, suc, List, [], ◌∷◌, ◌++◌, length, take, Some, refl, arith, length-append}
use Rattle.std.specs.Prelude.{slice_get}
use Rattle.sbpf_machine.specs.declared.frames.Kept.{Kept}

-- with one more
pub one_more : (frames : List Kept) (frame x : Kept) (k : ℕ) → slice_get (frames ++ frame ∷ []) k ≡ Some x → (slice_get frames k ≡ Some x) ⊎ ((x ≡ frame) × (k ≡ length frames))
one_more [] frame x zero h = inr (cc, refl)
one_more [] frame x (suc k) h = absurd (cc)
one_more (y ∷ frames) frame x zero h = inl h
one_more (y ∷ frames) frame x (suc k) h = ⊎_elim
    (λ (old : slice_get frames k ≡ Some x). inl old)
    (λ (new : (x ≡ frame) × (k ≡ length frames)). inr (new.0, omega (arith, new.1)))
    (one_more frames frame x k h)

pub count_more : (frames : List Kept) (frame : Kept) → length (frames ++ frame ∷ []) ≡ length frames + 1
count_more frames frame = length-append frames (frame ∷ [])

-- the first of them
pub of_front : (n : ℕ) (frames : List Kept) (x : Kept) (k : ℕ) → slice_get (take n frames) k ≡ Some x → slice_get frames k ≡ Some x
of_front zero frames x k h = absurd (cc)
of_front (suc n) [] x k h = h
of_front (suc n) (y ∷ frames) x zero h = h
of_front (suc n) (y ∷ frames) x (suc k) h = of_front n frames x k h

pub there_below : (frames : List Kept) (k : ℕ) (x : Kept) → slice_get frames k ≡ Some x → k < length frames
there_below [] k x h = absurd (cc)
there_below (y ∷ frames) zero x h = omega arith
there_below (y ∷ frames) (suc k) x h = omega (arith, there_below frames k x h)
