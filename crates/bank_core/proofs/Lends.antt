-- Accounts lent, one lock after another.
use Rattle.std.proofs.Common.{◌≡◌, ℕ, suc, zero, ◌+◌, ◌<◌, ◌≤◌, ◌==◌, Bool, true, false, ◌||◌, ◌&&◌, cond, inl, inr, List, [], ◌∷◌, ◌++◌, filter, length, get_or, take, Option, Some, None, IsSome, refl, sym, ◌∙◌, ap, ap₂, subst, arith, eqb-true}
use Rattle.std.proofs.lemmas.List.{take_more, map-append, length-map, get_or-take, length-take-le, take-map}
use Rattle.std.proofs.lemmas.List.Elements.{All-head, All-tail}
use Rattle.std.proofs.lemmas.Bool.{eqb-false, cases_order, or_cases, or_left, or_right, false≢true, false_from_ne_true, cond-false}
use Rattle.std.proofs.lemmas.Map.Keys.{apart_from_distinct}
use Rattle.bank_core.proofs.Puts.{write_numbers_more}
use Rattle.sol_base.specs.declared.account.Account.{Account}
use Rattle.lock_table.specs.declared.locks.NumberedLock.{NumberedLock}
use Rattle.bank_core.specs.Slots.{Shared, value_of, account_at, has, numbers, write_numbers, taken_at, put_back_at, AllThere, AreDistinct, in_slot, found}
use Rattle.sol_base.specs.Accounts.{accounts_of}

-- what has been lent so far
pub record LentSoFar (slots : List (Option Shared)) (locks : List NumberedLock) (i : ℕ) (values : List Shared) (old : ℕ → Option Account) : Type 0 where
  pub lent : accounts_of values ≡ found (take i locks) old
  pub left : (n : ℕ) → account_at slots n ≡ taken_at (write_numbers (take i locks)) old n

-- write locks are locks
pub written_number : (n : ℕ) (locks : List NumberedLock) → has n (write_numbers locks) ≡ true → has n (numbers locks) ≡ true
written_number n [] h = h
written_number n (x ∷ xs) h = go x.write (written_number n xs) h
  where
    go : (b : Bool) → (has n (write_numbers xs) ≡ true → has n (numbers xs) ≡ true)
        → has n (numbers (cond b (x ∷ filter (λ l. l.write) xs) (filter (λ l. l.write) xs))) ≡ true
        → has n (numbers (x ∷ xs)) ≡ true
    go true ih g = elim (or_cases (n == x.number) _ g) [ inl t ↦ or_left (n == x.number) (has n (numbers xs)) t | inr r ↦ or_right (n == x.number) (has n (numbers xs)) (ih r) ]
    go false ih g = or_right (n == x.number) (has n (numbers xs)) (ih g)

-- where a number stands
place_of : (n : ℕ) (ns : List ℕ) → has n ns ≡ true → (k : ℕ) × (k < length ns) × (get_or ns k 0 ≡ n)
place_of n [] h = absurd (false≢true h)
place_of n (x ∷ xs) h =
    elim (or_cases (n == x) (has n xs) h) [
      | inl t ↦ (zero, omega arith, sym (eqb-true n x t))
      | inr r ↦ let q = place_of n xs r in (suc q.0, (let l = q.1 in omega arith), q.2)
    ]

-- a number that was read
number_at : (locks : List NumberedLock) (i : ℕ) (d : NumberedLock) → i < length locks → get_or (numbers locks) i 0 ≡ (get_or locks i d).number
number_at [] i d l = absurd (omega arith)
number_at (x ∷ xs) zero d l = refl
number_at (x ∷ xs) (suc i) d l = number_at xs i d (omega arith)

-- locks of one number are one
pub distinct_places : (locks : List NumberedLock) → AreDistinct locks → (a b : ℕ) → a < length locks → b < length locks → get_or (numbers locks) a 0 ≡ get_or (numbers locks) b 0 → a ≡ b
distinct_places locks distinct a b l m e =
    elim (cases_order a b) [
      | inl same ↦ same
      | inr (inl u) ↦ absurd (apart a b u m e)
      | inr (inr u) ↦ absurd (apart b a u l (sym e))
    ]
  where
    apart : (a b : ℕ) → a < b → b < length locks → get_or (numbers locks) a 0 ≡ get_or (numbers locks) b 0 → ⊥
    apart a b u m e = eqb-false _ _ (apart_from_distinct (λ x y. x == y) (numbers locks) a b 0 distinct u (let k = length-map locks (λ (lock : NumberedLock). lock.number) in omega (arith, k))) e

-- the next number has not been lent
not_yet : (locks : List NumberedLock) (i : ℕ) (d : NumberedLock) → i < length locks → AreDistinct locks → has (get_or locks i d).number (write_numbers (take i locks)) ≡ false
not_yet locks i d l distinct = false_from_ne_true _ apart
  where
    n : ℕ
    n = (get_or locks i d).number

    shorter : length (numbers (take i locks)) ≡ i
    shorter = length-map (take i locks) (λ l. l.number) ∙ length-take-le i locks (omega arith)

    apart : has n (write_numbers (take i locks)) ≡ true → ⊥
    apart h =
        let q = place_of n (numbers (take i locks)) (written_number n (take i locks) h) in
        let k : ℕ = q.0 in
        let below : k < i = let b = q.1 in omega (arith, shorter, b) in
        let read : get_or (numbers locks) k 0 ≡ n = sym (get_or-take i (numbers locks) k 0 below) ∙ (ap (λ ns. get_or ns k 0) (take-map (λ (l : NumberedLock). l.number) i locks) ∙ q.2) in
        let same : k ≡ i = distinct_places locks distinct k i (omega (arith, below, l)) l (read ∙ sym (number_at locks i d l)) in
        omega (arith, below, same)

-- what stands at the next number is as it was
pub still_there : (slots : List (Option Shared)) (locks : List NumberedLock) (i : ℕ) (values : List Shared) (old : ℕ → Option Account) (d : NumberedLock)
    → LentSoFar slots locks i values old → i < length locks → AreDistinct locks → account_at slots (get_or locks i d).number ≡ old (get_or locks i d).number
still_there slots locks i values old d h l distinct = h.left (get_or locks i d).number ∙ cond-false _ _ _ (not_yet locks i d l distinct)

has_more : (n : ℕ) (xs ys : List ℕ) → has n (xs ++ ys) ≡ (has n xs || has n ys)
has_more n [] ys = refl
has_more n (x ∷ xs) ys = go (n == x) (has n xs) (has n ys) (has_more n xs ys)
  where
    go : (a b c : Bool) → has n (xs ++ ys) ≡ (b || c) → (a || has n (xs ++ ys)) ≡ ((a || b) || c)
    go true b c h = refl
    go false b c h = h

-- one lock more
pub lend_step : (slots next : List (Option Shared)) (locks : List NumberedLock) (i : ℕ) (values more : List Shared) (a : Shared) (old : ℕ → Option Account) (d : NumberedLock)
    → LentSoFar slots locks i values old → i < length locks → AreDistinct locks
    → Some (value_of a) ≡ account_at slots (get_or locks i d).number
    → ((n : ℕ) → account_at next n ≡ taken_at (write_numbers (get_or locks i d ∷ [])) (account_at slots) n)
    → more ≡ values ++ a ∷ []
    → LentSoFar next locks (i + 1) more old
lend_step slots next locks i values more a old d h l distinct lent left grown = record {
  lent =
      ap accounts_of grown ∙ (map-append value_of values (a ∷ [])
      ∙ (ap₂ (λ (xs : List Account) (x : Account). xs ++ x ∷ []) h.lent (ap in_slot (lent ∙ still_there slots locks i values old d h l distinct))
      ∙ (sym (map-append (λ (x : NumberedLock). in_slot (old x.number)) (take i locks) (lock ∷ [])) ∙ sym (ap (λ ls. found ls old) longer))));
  left = λ n.
      left n
      ∙ (ap (λ o. cond (has n (write_numbers (lock ∷ []))) None o) (h.left n)
      ∙ (both (has n (write_numbers (take i locks))) (has n (write_numbers (lock ∷ []))) (old n)
      ∙ ap (λ b. cond b None (old n))
      (sym (has_more n (write_numbers (take i locks)) (write_numbers (lock ∷ [])))
      ∙ ap (has n) (sym (write_numbers_more (take i locks) lock) ∙ ap write_numbers (sym longer)))));
}
  where
    lock : NumberedLock
    lock = get_or locks i d

    longer : take (i + 1) locks ≡ take i locks ++ lock ∷ []
    longer = take_more locks i d l

    both : (b c : Bool) (o : Option Account) → cond c None (cond b None o) ≡ cond (b || c) None o
    both true true o = refl
    both true false o = refl
    both false c o = refl

-- what was lent and put back
back_is : (locks : List NumberedLock) (old slots : ℕ → Option Account) (n : ℕ) → put_back_at locks (found locks old) slots n ≡ cond (has n (write_numbers locks)) (Some (in_slot (old n))) (slots n)
back_is [] old slots n = refl
back_is (x ∷ xs) old slots n = go x.write (n == x.number) refl (back_is xs old slots n)
  where
    go : (b c : Bool) → (n == x.number) ≡ c → put_back_at xs (found xs old) slots n ≡ cond (has n (write_numbers xs)) (Some (in_slot (old n))) (slots n)
        → cond (b && c) (Some (in_slot (old x.number))) (put_back_at xs (found xs old) slots n)
        ≡ cond (has n (numbers (cond b (x ∷ filter (λ l. l.write) xs) (filter (λ l. l.write) xs))))
        (Some (in_slot (old n))) (slots n)
    go true true e ih = ap (λ m. Some (in_slot (old m))) (sym (eqb-true n x.number e)) ∙ sym (ap (λ t. cond (t || has n (write_numbers xs)) (Some (in_slot (old n))) (slots n)) e)
    go true false e ih = ih ∙ sym (ap (λ t. cond (t || has n (write_numbers xs)) (Some (in_slot (old n))) (slots n)) e)
    go false c e ih = ih

there_at : (locks : List NumberedLock) (old : ℕ → Option Account) (n : ℕ) → AllThere locks old → has n (numbers locks) ≡ true → IsSome (old n)
there_at [] old n a h = absurd (false≢true h)
there_at (x ∷ xs) old n a h =
    elim (or_cases (n == x.number) (has n (numbers xs)) h) [
      | inl t ↦ subst (λ m. IsSome (old m)) (sym (eqb-true n x.number t)) (All-head (λ l. IsSome (old l.number)) x xs a)
      | inr r ↦ there_at xs old n (All-tail (λ l. IsSome (old l.number)) x xs a) r
    ]

some_is : (o : Option Account) → IsSome o → Some (in_slot o) ≡ o
some_is (Some v) h = refl
some_is None h = absurd (cc)

pub restored : (slots next : List (Option Shared)) (locks : List NumberedLock) (i : ℕ) (values : List Shared) (old : ℕ → Option Account)
    → LentSoFar slots locks i values old → i ≤ length locks → AllThere locks old
    → ((n : ℕ) → account_at next n ≡ put_back_at (take (length values) locks) (accounts_of values) (account_at slots) n)
    → (n : ℕ) → account_at next n ≡ old n
restored slots next locks i values old h l there back n =
    back n
    ∙ (ap₂ (λ k vs. put_back_at (take k locks) vs (account_at slots) n) many h.lent
    ∙ (back_is mine old (account_at slots) n
    ∙ (ap (λ o. cond (has n (write_numbers mine)) (Some (in_slot (old n))) o) (h.left n)
    ∙ go (has n (write_numbers mine)) refl)))
  where
    mine : List NumberedLock
    mine = take i locks

    many : length values ≡ i
    many = sym (length-map values value_of) ∙ (ap length h.lent ∙ (length-map mine (λ (x : NumberedLock). in_slot (old x.number)) ∙ length-take-le i locks l))

    go : (b : Bool) → has n (write_numbers mine) ≡ b → cond b (Some (in_slot (old n))) (cond b None (old n)) ≡ old n
    go true e = some_is (old n) (there_at mine old n
        (λ k d u. subst (λ (x : NumberedLock). IsSome (old x.number))
        (sym (get_or-take i locks k d (shorter k u))) (there k d (let a = shorter k u in omega (arith, a, l))))
        (written_number n mine e))
      where
        shorter : (k : ℕ) → k < length mine → k < i
        shorter k u = let e = length-take-le i locks l in omega arith
    go false e = refl
