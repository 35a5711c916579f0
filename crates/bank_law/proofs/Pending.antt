-- The first position that is yet to write a key, and the serial run where nobody writes.
use Rattle.std.proofs.Common.{◌≡◌, ℕ, zero, suc, ◌<◌, ◌≤◌, Bool, true, false, not, cond, inl, inr, refl, ◌∙◌, ap, arith}
use Rattle.std.proofs.lemmas.Bool.{both_ways, cond_both, cond-false, cases_lt, and_parts, and_cases, false_from_ne_true, not-false, not-true}
use Rattle.sol_base.specs.declared.key.Key.{Key}
use Rattle.sol_base.specs.declared.account.Account.{Account}
use Rattle.bank_law.specs.Job.{Job, writes}
use Rattle.bank_law.specs.Serial.{serial}
use Rattle.bank_law.specs.Machine.{State, is_done}
use Rattle.bank_law.specs.Sound.{least, will_write, first, due}

pub least-before : (test : ℕ → Bool) (n j : ℕ) → j < least test n → test j ≡ false
least-before test zero j u = absurd (omega arith)
least-before test (suc n) j u = by_case (test 0) refl (least-before (λ i. test (suc i)) n) j u
  where
    more : ℕ
    more = least (λ i. test (suc i)) n

    by_case : (b : Bool) → test 0 ≡ b → ((j : ℕ) → j < more → test (suc j) ≡ false) → (j : ℕ) → j < cond b 0 (suc more) → test j ≡ false
    by_case true e rest j v = absurd (omega arith)
    by_case false e rest zero v = e
    by_case false e rest (suc j) v = rest j (omega arith)

pub least-at : (test : ℕ → Bool) (n : ℕ) → least test n < n → test (least test n) ≡ true
least-at test zero u = absurd (omega arith)
least-at test (suc n) u = by_case (test 0) refl (least-at (λ i. test (suc i)) n) u
  where
    more : ℕ
    more = least (λ i. test (suc i)) n

    by_case : (b : Bool) → test 0 ≡ b → (more < n → test (suc more) ≡ true) → cond b 0 (suc more) < suc n → test (cond b 0 (suc more)) ≡ true
    by_case true e rest v = e
    by_case false e rest v = rest (omega arith)

pub least-le : (test : ℕ → Bool) (n : ℕ) → least test n ≤ n
least-le test zero = omega arith
least-le test (suc n) =
    cond_both (test 0) 0 (suc (least (λ i. test (suc i)) n)) (λ m. m ≤ suc n) (λ t. omega arith) (λ f. let rest = least-le (λ i. test (suc i)) n in omega (arith, rest))

least-same : (p q : ℕ → Bool) (n : ℕ) → ((j : ℕ) → p j ≡ q j) → least p n ≡ least q n
least-same p q n h = λ i. least (λ j. h j i) n

-- where nobody writes the key from j on, it stays
pub steady : (job : Job) (start : Key → Account) (key : Key) (j m : ℕ) → j ≤ m → ((i : ℕ) → j ≤ i → i < m → writes job i key ≡ false) → serial job start m key ≡ serial job start j key
steady job start key j zero l none = let e : zero ≡ j = omega arith in ap (λ n. serial job start n key) e
steady job start key j (suc m) l none =
    elim (cases_lt m j) [
      | inl u ↦ let e : suc m ≡ j = omega arith in ap (λ n. serial job start n key) e
      | inr v ↦ cond-false (writes job m key) _ _ (none m v (omega arith)) ∙ steady job start key j m v (λ i a b. none i a (omega arith))
    ]

-- who writes the key before the first is done
pub before_first : (job : Job) (s : State) (key : Key) (j : ℕ) → j < first job s key → writes job j key ≡ true → is_done (s.stage j) ≡ true
before_first job s key j u h =
    elim (and_cases (writes job j key) (not (is_done (s.stage j))) (least-before (will_write job s key) job.count j u)) [
      | inl f ↦ absurd (both_ways _ f h)
      | inr n ↦ not-false _ n
    ]

-- the first does not stand before m where each writer before m is done
pub first-ge : (job : Job) (s : State) (key : Key) (m : ℕ) → m ≤ job.count → ((j : ℕ) → j < m → writes job j key ≡ true → is_done (s.stage j) ≡ true) → m ≤ first job s key
first-ge job s key m l h =
    elim (cases_lt (first job s key) m) [
      | inl u ↦
          let here : will_write job s key (first job s key) ≡ true = least-at (will_write job s key) job.count (omega arith) in
          let parts = and_parts _ _ here in
          absurd (both_ways _ (not-true _ parts.1) (h (first job s key) u parts.0))
      | inr v ↦ v
    ]

-- the account due is that of position m where each writer before m is done, and none from m on
pub due-at : (job : Job) (start : Key → Account) (s : State) (key : Key) (m : ℕ) → m ≤ job.count
    → ((j : ℕ) → j < m → writes job j key ≡ true → is_done (s.stage j) ≡ true)
    → ((j : ℕ) → m ≤ j → writes job j key ≡ true → is_done (s.stage j) ≡ true → ⊥) → due job start s key ≡ serial job start m key
due-at job start s key m l below none =
    steady job start key m (first job s key) (first-ge job s key m l below) (λ j a u. false_from_ne_true _ (λ h. none j a h (before_first job s key j u h)))

-- the account due stays where the same are yet to write the key
pub due-same : (job : Job) (start : Key → Account) (s t : State) (key : Key) → ((j : ℕ) → will_write job t key j ≡ will_write job s key j) → due job start t key ≡ due job start s key
due-same job start s t key h = ap (λ n. serial job start n key) (least-same (will_write job t key) (will_write job s key) job.count h)
