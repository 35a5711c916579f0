-- Stages of positions: no two at once, and one that changes.
use Rattle.std.proofs.Common.{◌≡◌, ℕ, true, false, refl, sym, ◌∙◌, subst, ◌==◌, eqb-true, eq-eqb, ne_eqb}
use Rattle.std.proofs.lemmas.Bool.{both_ways, cond_both, cond-true, cond-false}
use Rattle.bank_law.specs.Machine.{Stage, waiting, held, done, is_waiting, is_held_by, is_done, at_stage}

-- what is said of each position, once one has changed
pub at_cases : (P : ℕ → Stage → Type 0) (f : ℕ → Stage) (i : ℕ) (x : Stage) → P i x → ((j : ℕ) → (j ≡ i → ⊥) → P j (f j)) → (j : ℕ) → P j (at_stage f i x j)
at_cases P f i x here there j =
    cond_both (j == i) x (f j) (P j) (λ t. let e : i ≡ j = sym (eqb-true j i t) in subst (λ n. P n x) e here) (λ e. there j (λ q. both_ways _ e (eq-eqb j i q)))

pub at_stage-same : (f : ℕ → Stage) (i : ℕ) (x : Stage) → at_stage f i x i ≡ x
at_stage-same f i x = cond-true (i == i) x (f i) (eq-eqb i i refl)

pub at_stage-other : (f : ℕ → Stage) (i : ℕ) (x : Stage) (j : ℕ) → (j ≡ i → ⊥) → at_stage f i x j ≡ f j
at_stage-other f i x j n = cond-false (j == i) x (f j) (ne_eqb j i n)

pub waiting_undone : (x : Stage) → is_waiting x ≡ true → is_done x ≡ true → ⊥
waiting_undone waiting a b = cc
waiting_undone (held lane vs) a b = cc
waiting_undone (done o) a b = cc

pub waiting_unheld : (x : Stage) (lane : ℕ) → is_waiting x ≡ true → is_held_by lane x ≡ true → ⊥
waiting_unheld waiting lane a b = cc
waiting_unheld (held other vs) lane a b = cc
waiting_unheld (done o) lane a b = cc

pub held_undone : (x : Stage) (lane : ℕ) → is_held_by lane x ≡ true → is_done x ≡ true → ⊥
held_undone waiting lane a b = cc
held_undone (held other vs) lane a b = cc
held_undone (done o) lane a b = cc

pub done_started : (x : Stage) → is_done x ≡ true → is_waiting x ≡ false
done_started waiting a = absurd (cc)
done_started (held lane vs) a = absurd (cc)
done_started (done o) a = refl

pub held_started : (x : Stage) (lane : ℕ) → is_held_by lane x ≡ true → is_waiting x ≡ false
held_started waiting lane a = absurd (cc)
held_started (held lane' vs) lane a = refl
held_started (done o) lane a = absurd (cc)

pub not_done : (x : Stage) → (is_done x ≡ true → ⊥) → is_done x ≡ false
not_done waiting a = refl
not_done (held lane vs) a = refl
not_done (done o) a = absurd (a refl)

pub one_holder : (x : Stage) (l lane : ℕ) → is_held_by l x ≡ true → is_held_by lane x ≡ true → l ≡ lane
one_holder waiting l lane a b = absurd (cc)
one_holder (held other vs) l lane a b = sym (eqb-true other l a) ∙ eqb-true other lane b
one_holder (done o) l lane a b = absurd (cc)
