-- The lamports under keys, and the sums of states.
use Rattle.std.proofs.Common.{◌≡◌, ◌+◌, ◌≤◌, Bool, true, false, cond, List, [], ◌∷◌, refl, sym, ◌∙◌, ap, subst, arith}
use Rattle.std.specs.List.{IsDistinct, AllByRecursion}
use Rattle.std.proofs.lemmas.Bool.{both_ways, false_from_ne_true, cond-false, or_from, or_left, or_right}
use Rattle.std.proofs.lemmas.List.Sums.{sum_by-cons}
use Rattle.std.proofs.lemmas.Map.Keys.{IsDistinct-head, IsDistinct-tail}
use Rattle.sol_base.specs.declared.key.Key.{Key}
use Rattle.sol_base.specs.declared.account.Account.{Account}
use Rattle.sol_base.specs.Keys.{same_key, has_key}
use Rattle.sol_base.specs.Accounts.{empty_account}
use Rattle.sol_base.proofs.KeyLaws.{same_key-true, same_key-self}
use Rattle.account_store.specs.State.{State, at, remove, sum, lamports_under, AgreeElsewhere, IsState}
use Rattle.account_store.proofs.StateLaws.{same_at, at-remove, sum-remove, IsState-remove}

pub has_key-first : (k : Key) (ks : List Key) → has_key k (k ∷ ks) ≡ true
has_key-first k ks = or_left _ _ (same_key-self k)

-- a key that stands behind another
pub has_key-rest : (q k : Key) (ks : List Key) → has_key q ks ≡ true → has_key q (k ∷ ks) ≡ true
has_key-rest q k ks h = or_right (same_key q k) _ h

-- a key that is none of them
pub has_key-none : (q : Key) (ks : List Key) → AllByRecursion (λ k. same_key q k ≡ false) ks → has_key q ks ≡ false
has_key-none q [] apart = refl
has_key-none q (k ∷ ks) apart = or_from (same_key q k) (has_key q ks) apart.0 (has_key-none q ks apart.1)

first_apart : (k : Key) (ks : List Key) → IsDistinct same_key (k ∷ ks) → has_key k ks ≡ false
first_apart k ks d = has_key-none k ks (IsDistinct-head same_key k ks d)

pub under-cons : (f : Key → Account) (k : Key) (ks : List Key) → lamports_under f (k ∷ ks) ≡ (f k).lamports + lamports_under f ks
under-cons f k ks = sum_by-cons (λ (key : Key). (f key).lamports) k ks

-- what is the same under each key holds the same lamports
pub under-same : (f g : Key → Account) (ks : List Key) → ((key : Key) → has_key key ks ≡ true → f key ≡ g key) → lamports_under f ks ≡ lamports_under g ks
under-same f g [] same = refl
under-same f g (k ∷ ks) same =
    let here = ap (λ (a : Account). a.lamports) (same k (has_key-first k ks)) in
    let rest = under-same f g ks (λ key m. same key (has_key-rest key k ks m)) in
    let a = under-cons f k ks in
    let b = under-cons g k ks in
    omega (arith, here, rest, a, b)

-- what is taken out at one key leaves what is under others
under-removed : (s : State) (k : Key) (ks : List Key) → has_key k ks ≡ false → lamports_under (at (remove s k)) ks ≡ lamports_under (at s) ks
under-removed s k ks apart = under-same (at (remove s k)) (at s) ks (λ key m. at-remove s k key ∙ cond-false (same_key key k) empty_account (at s key) (other key m))
  where
    other : (key : Key) → has_key key ks ≡ true → same_key key k ≡ false
    other key m = false_from_ne_true _ (λ e. both_ways _ apart (subst (λ x. has_key x ks ≡ true) (same_key-true key k e) m))

-- distinct keys hold no more than all
pub under-le : (s : State) (ks : List Key) → IsDistinct same_key ks → lamports_under (at s) ks ≤ sum s
under-le s [] d = omega arith
under-le s (k ∷ ks) d =
    let rest = under-le (remove s k) ks (IsDistinct-tail same_key k ks d) in
    let a = sum-remove s k in
    let f = under-cons (at s) k ks in
    let u = under-removed s k ks (first_apart k ks d) in
    omega (arith, rest, a, f, u)

-- states that agree under all other keys differ by what they hold under these
pub sums_differ : (s t : State) (ks : List Key) → IsState s → IsState t → IsDistinct same_key ks → AgreeElsewhere s t ks → sum s + lamports_under (at t) ks ≡ sum t + lamports_under (at s) ks
sums_differ s t [] is it d agree = let e = ap sum (same_at s t is it (λ k. agree k refl)) in omega (arith, e)
sums_differ s t (k ∷ ks) is it d agree =
    let rest = sums_differ (remove s k) (remove t k) ks (IsState-remove s k is) (IsState-remove t k it) (IsDistinct-tail same_key k ks d) others in
    let a = sum-remove s k in
    let b = sum-remove t k in
    let f = under-cons (at s) k ks in
    let g = under-cons (at t) k ks in
    let u = under-removed s k ks (first_apart k ks d) in
    let v = under-removed t k ks (first_apart k ks d) in
    omega (arith, rest, a, b, f, g, u, v)
  where
    others : (key : Key) → has_key key ks ≡ false → at (remove s k) key ≡ at (remove t k) key
    others key out = at-remove s k key ∙ (by_case (same_key key k) refl ∙ sym (at-remove t k key))
      where
        by_case : (b : Bool) → same_key key k ≡ b → cond b empty_account (at s key) ≡ cond b empty_account (at t key)
        by_case true e = refl
        by_case false e = agree key (or_from (same_key key k) (has_key key ks) e out)
