-- The small work for trials: few locks, and what is lent of one lock more.
use Rattle.std.proofs.Common.{◌≡◌, ℕ, zero, suc, ◌+◌, ◌*◌, ◌^◌, ◌<◌, ◌≤◌, Bool, true, false, cond, List, [], ◌∷◌, ◌++◌, map, length, get_or, take, All, refl, sym, append-nil, ◌∙◌, ap, ap₂, arith}
use Rattle.std.proofs.lemmas.Bool.{cond-true, cond-false}
use Rattle.std.proofs.lemmas.List.{length-take-le, take_more, length-map, map-append}
use Rattle.sol_base.specs.declared.account.Account.{Account}
use Rattle.sol_base.specs.declared.lock.Lock.{Lock}
use Rattle.sol_base.specs.Accounts.{accounts_of}
use Rattle.bank_law.specs.Lawful.{lent_for_writing}
use Rattle.bank_core.specs.Slots.{Shared, value_of}
use Rattle.bank_core.specs.Counts.{locks_before}
use Rattle.lane_trials.specs.Trial.{trial_job, spent, IsSmall}

-- few positions of few locks have few locks together
few_before : (lists : List (List Lock)) (n : ℕ) → n ≤ length lists → All (λ locks. length locks < 100) lists → locks_before (trial_job lists) n ≤ 100 * n
few_before lists zero l s = omega arith
few_before lists (suc n) l s =
    let rest = few_before lists n (omega (arith, l)) s in
    let one = s n [] (omega (arith, l)) in
    omega (arith, rest, one)

pub few_locks : (lists : List (List Lock)) → IsSmall lists → locks_before (trial_job lists) (length lists) < 2 ^ 32
few_locks lists S = let a = few_before lists (length lists) (omega arith) S.short in let f = S.few in omega (arith, a, f)

-- one lock and one value more
lent_more : (locks : List Lock) (vs : List Account) (x : Lock) (v : Account) → length vs ≡ length locks
    → lent_for_writing (locks ++ x ∷ []) (vs ++ v ∷ []) ≡ lent_for_writing locks vs ++ lent_for_writing (x ∷ []) (v ∷ [])
lent_more [] [] x v e = refl
lent_more [] (u ∷ us) x v e = absurd (omega (arith, e))
lent_more (y ∷ ys) [] x v e = absurd (omega (arith, e))
lent_more (y ∷ ys) (u ∷ us) x v e = by_case y.write (lent_more ys us x v (omega (arith, e)))
  where
    by_case : (b : Bool) → lent_for_writing (ys ++ x ∷ []) (us ++ v ∷ []) ≡ lent_for_writing ys us ++ lent_for_writing (x ∷ []) (v ∷ [])
        → cond b (u ∷ lent_for_writing (ys ++ x ∷ []) (us ++ v ∷ [])) (lent_for_writing (ys ++ x ∷ []) (us ++ v ∷ []))
        ≡ cond b (u ∷ lent_for_writing ys us) (lent_for_writing ys us) ++ lent_for_writing (x ∷ []) (v ∷ [])
    by_case true ih = ap (λ ws. u ∷ ws) ih
    by_case false ih = ih

pub lent_next : (locks : List Lock) (vs : List Account) (i : ℕ) (d : Lock) (u : Account) → i < length locks → length vs ≡ length locks
    → lent_for_writing (take (i + 1) locks) (take (i + 1) vs) ≡ lent_for_writing (take i locks) (take i vs) ++ lent_for_writing (get_or locks i d ∷ []) (get_or vs i u ∷ [])
lent_next locks vs i d u l e =
    ap₂ lent_for_writing (take_more locks i d l) (take_more vs i u (omega (arith, l, e)))
    ∙ lent_more (take i locks) (take i vs) (get_or locks i d) (get_or vs i u)
    (let a = length-take-le i locks (omega (arith, l)) in let b = length-take-le i vs (omega (arith, l, e))
    in omega (arith, a, b))

-- what is written once one lock more is passed, which writes
module _ (locks : List Lock) (shares written : List Shared) (i : ℕ) (d : Lock) (u : Account) (l : i < length locks) (e : length shares ≡ length locks)
    (so_far : accounts_of written ≡ map spent (lent_for_writing (take i locks) (take i (accounts_of shares)))) where
  many : length (accounts_of shares) ≡ length locks
  many = length-map shares value_of ∙ e

  joined : map spent (lent_for_writing (take (i + 1) locks) (take (i + 1) (accounts_of shares)))
      ≡ accounts_of written ++ map spent (lent_for_writing (get_or locks i d ∷ []) (get_or (accounts_of shares) i u ∷ []))
  joined =
      ap (map spent) (lent_next locks (accounts_of shares) i d u l many)
      ∙ (map-append spent (lent_for_writing (take i locks) (take i (accounts_of shares))) (lent_for_writing (get_or locks i d ∷ []) (get_or (accounts_of shares) i u ∷ []))
      ∙ ap (λ vs. vs ++ map spent (lent_for_writing (get_or locks i d ∷ []) (get_or (accounts_of shares) i u ∷ []))) (sym so_far))

  pub written_more : (share : Shared) → (get_or locks i d).write ≡ true → value_of share ≡ spent (get_or (accounts_of shares) i u)
      → accounts_of (written ++ share ∷ []) ≡ map spent (lent_for_writing (take (i + 1) locks) (take (i + 1) (accounts_of shares)))
  written_more share w v =
      map-append value_of written (share ∷ [])
      ∙ (ap (λ a. accounts_of written ++ a ∷ []) v
      ∙ (sym (ap (λ vs. accounts_of written ++ map spent vs) (cond-true (get_or locks i d).write (get_or (accounts_of shares) i u ∷ []) [] w)) ∙ sym joined))

  pub read_more : (get_or locks i d).write ≡ false → accounts_of written ≡ map spent (lent_for_writing (take (i + 1) locks) (take (i + 1) (accounts_of shares)))
  read_more w =
      sym (append-nil (accounts_of written))
      ∙ (sym (ap (λ vs. accounts_of written ++ map spent vs) (cond-false (get_or locks i d).write (get_or (accounts_of shares) i u ∷ []) [] w)) ∙ sym joined)
