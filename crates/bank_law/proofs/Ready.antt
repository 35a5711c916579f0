-- The least position that is ready.
use Rattle.std.proofs.Common.{◌≡◌, ℕ, zero, suc, ◌<◌, Bool, true, false, not, ◌&&◌, ◌||◌, inl, inr, refl, subst, arith}
use Rattle.std.proofs.lemmas.Bool.{both_ways, cases_lt, cases_order, and_parts, and_from, or_cases, not-true}
use Rattle.bank_law.specs.Job.{Job}
use Rattle.bank_law.specs.Machine.{State, is_waiting, is_done, conflict, Ready}
use Rattle.bank_law.specs.Sound.{least}
use Rattle.bank_law.specs.Laws.{OneIsLeastReady, LeastReadyIsOne}
use Rattle.bank_law.proofs.Pending.{least-before, least-at}

-- each number below n passes
abbrev all_below : (ℕ → Bool) → ℕ → Bool
all_below test zero = true
all_below test (suc n) = test n && all_below test n

all_below-each : (test : ℕ → Bool) (n i : ℕ) → all_below test n ≡ true → i < n → test i ≡ true
all_below-each test zero i h l = absurd (omega arith)
all_below-each test (suc n) i h l =
    elim (cases_lt i n) [
      | inl u ↦ all_below-each test n i (and_parts _ _ h).1 u
      | inr v ↦ let e : n ≡ i = omega (arith, l, v) in subst (λ m. test m ≡ true) e (and_parts _ _ h).0
    ]

all_below-from : (test : ℕ → Bool) (n : ℕ) → ((i : ℕ) → i < n → test i ≡ true) → all_below test n ≡ true
all_below-from test zero h = refl
all_below-from test (suc n) h = and_from _ _ (h n (omega arith)) (all_below-from test n (λ i l. h i (omega arith)))

-- readiness of a position of the job, as a test
abbrev clear : Job → State → ℕ → ℕ → Bool
clear job s i j = not (conflict job j i) || is_done (s.stage j)

abbrev is_ready : Job → State → ℕ → Bool
is_ready job s i = is_waiting (s.stage i) && all_below (clear job s i) i

is_ready-from : (job : Job) (s : State) (i : ℕ) → Ready job s i → is_ready job s i ≡ true
is_ready-from job s i r = and_from _ _ r.waits (all_below-from (clear job s i) i (λ j l. by_case j l (conflict job j i) refl))
  where
    by_case : (j : ℕ) → j < i → (b : Bool) → conflict job j i ≡ b → (not b || is_done (s.stage j)) ≡ true
    by_case j l true e = r.earlier j l e
    by_case j l false e = refl

ready-from : (job : Job) (s : State) (i : ℕ) → i < job.count → is_ready job s i ≡ true → Ready job s i
ready-from job s i l h =
    let parts = and_parts _ _ h in
    record {
      below = l;
      waits = parts.0;
      earlier = λ j u c. elim (or_cases (not (conflict job j i)) (is_done (s.stage j)) (all_below-each (clear job s i) i j parts.1 u)) [
        | inl n ↦ absurd (both_ways _ (not-true _ n) c)
        | inr d ↦ d
      ];
    }

pub one_least : OneIsLeastReady
one_least job s i r = (
  first,
  record {
    ready = ready-from job s first below (least-at (is_ready job s) job.count below);
    least = λ j l q. both_ways _ (least-before (is_ready job s) job.count j l) (is_ready-from job s j q);
  },
)
  where
    first : ℕ
    first = least (is_ready job s) job.count

    below : first < job.count
    below =
        elim (cases_lt first job.count) [
          | inl u ↦ u
          | inr v ↦ let b = r.below in absurd (both_ways _ (least-before (is_ready job s) job.count i (omega arith)) (is_ready-from job s i r))
        ]

pub least_one : LeastReadyIsOne
least_one job s i j a b =
    elim (cases_order i j) [
      | inl e ↦ e
      | inr (inl u) ↦ absurd (b.least i u a.ready)
      | inr (inr u) ↦ absurd (a.least j u b.ready)
    ]
