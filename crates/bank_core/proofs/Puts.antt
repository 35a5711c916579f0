-- Accounts put into slots, one after another from the back.
use Rattle.std.proofs.Common.{◌≡◌, ℕ, ◌+◌, ◌-◌, ◌<◌, ◌≤◌, ◌==◌, Bool, true, false, ◌||◌, ◌&&◌, cond, inl, inr, List, [], ◌∷◌, ◌++◌, length, get_or, set, take, drop, All, Option, Some, None, refl, sym, ◌∙◌, ap, ap₂, subst, arith, take-take, take_at, length-take-le, get_or-take, get_or-set_same, get_or-set_other, eq-eqb, ne_eqb, filter, length-append}
use Rattle.std.proofs.lemmas.List.{get_or_default, drop_more, take_more, get_or_at, length_push}
use Rattle.std.proofs.lemmas.Bool.{cases_eq, cond-true, cond-false}
use Rattle.std.specs.Prelude.{IfSome, IfNone}
use Rattle.std.specs.Option.{option_map}
use Rattle.sol_base.specs.declared.account.Account.{Account}
use Rattle.lock_table.specs.declared.locks.NumberedLock.{NumberedLock}
use Rattle.bank_core.specs.Slots.{Shared, put_back_at, numbers, write_numbers, value_of, account_at, has, beside_number, put_at}
use Rattle.sol_base.specs.Accounts.{accounts_of}

-- one slot is written
pub account_set : (slots : List (Option Shared)) (at n : ℕ) (a : Option Shared) → at < length slots → account_at (set slots at a) n ≡ cond (n == at) (option_map value_of a) (account_at slots n)
account_set slots at n a l =
    elim (cases_eq n at) [
      | inl e ↦ ap (λ o. option_map value_of o) (subst (λ m. get_or (set slots at a) m None ≡ a) (sym e) (get_or-set_same slots at a None l)) ∙ sym (cond-true _ _ _ (eq-eqb n at e))
      | inr d ↦ ap (λ o. option_map value_of o) (get_or-set_other slots at n a None d) ∙ sym (cond-false _ _ _ (ne_eqb n at d))
    ]

-- a number in front
pub put_front : (x : ℕ) (xs : List ℕ) (v : Account) (vs : List Account) (old : ℕ → Option Account) (n : ℕ) → put_at (x ∷ xs) (v ∷ vs) old n ≡ cond (n == x) (Some v) (put_at xs vs old n)
put_front x xs v vs old n = go (n == x)
  where
    go : (b : Bool) → cond (b || has n xs) (Some (cond b v (beside_number n xs vs))) (old n) ≡ cond b (Some v) (cond (has n xs) (Some (beside_number n xs vs)) (old n))
    go true = refl
    go false = refl

-- write locks of joined lists
pub write_numbers_more : (xs : List NumberedLock) (x : NumberedLock) → write_numbers (xs ++ x ∷ []) ≡ write_numbers xs ++ write_numbers (x ∷ [])
write_numbers_more [] x = refl
write_numbers_more (y ∷ ys) x = go y.write (write_numbers_more ys x)
  where
    go : (b : Bool) → write_numbers (ys ++ x ∷ []) ≡ write_numbers ys ++ write_numbers (x ∷ [])
        → numbers (cond b (y ∷ filter (λ l. l.write) (ys ++ x ∷ [])) (filter (λ l. l.write) (ys ++ x ∷ [])))
        ≡ numbers (cond b (y ∷ filter (λ l. l.write) ys) (filter (λ l. l.write) ys))
        ++ write_numbers (x ∷ [])
    go true ih = ap (λ ns. y.number ∷ ns) ih
    go false ih = ih

pub writes_one : (x : NumberedLock) → x.write ≡ true → write_numbers (x ∷ []) ≡ x.number ∷ []
writes_one x w = ap numbers (cond-true x.write (x ∷ []) [] w)

writes_front : (x : NumberedLock) (xs : List NumberedLock) → x.write ≡ true → write_numbers (x ∷ xs) ≡ x.number ∷ write_numbers xs
writes_front x xs w = ap numbers (cond-true x.write (x ∷ filter (λ l. l.write) xs) (filter (λ l. l.write) xs) w)

-- the accounts of the locks from place i on are put
pub record PutSoFar (slots : List (Option Shared)) (locks : List NumberedLock) (i : ℕ) (all left : List Shared) (old : ℕ → Option Account) : Type 0 where
  pub below : i ≤ length locks
  pub front : left ≡ take (length left) all
  pub few : length left ≡ length (write_numbers (take i locks))
  pub most : length left ≤ length all
  pub put : (n : ℕ) → account_at slots n ≡ put_at (write_numbers (drop i locks)) (accounts_of (drop (length left) all)) old n

module _ (slots : List (Option Shared)) (locks : List NumberedLock) (i : ℕ) (all left : List Shared) (old : ℕ → Option Account) (lock : NumberedLock)
    (h : PutSoFar slots locks (i + 1) all left old) (here : lock ≡ get_or locks i lock) where
  below_locks : i < length locks
  below_locks = let b = h.below in omega (arith, b)

  lock_next : take (i + 1) locks ≡ take i locks ++ lock ∷ []
  lock_next = take_more locks i lock below_locks ∙ ap (λ x. take i locks ++ x ∷ []) (sym here)

  lock_here : drop i locks ≡ lock ∷ drop (i + 1) locks
  lock_here = drop_more locks i lock below_locks ∙ ap (λ x. x ∷ drop (i + 1) locks) (sym here)

  counted : length left ≡ length (write_numbers (take i locks)) + length (write_numbers (lock ∷ []))
  counted = h.few ∙ (ap (λ ls. length (write_numbers ls)) lock_next ∙ (ap length (write_numbers_more (take i locks) lock) ∙ length-append (write_numbers (take i locks)) (write_numbers (lock ∷ []))))

  pub put_write : (rest : List Shared) (a : Shared) → left ≡ rest ++ a ∷ [] → lock.write ≡ true → lock.number < length slots → PutSoFar (set slots lock.number (Some a)) locks i all rest old
  put_write rest a pop w within = record {
    below = omega (arith, below_locks);
    front = sym (take_at rest (a ∷ []) m refl) ∙ (sym (ap (take m) is_front) ∙ take-take m (m + 1) all (omega arith));
    few = let one = ap length (writes_one lock w) in omega (arith, counted, longer, one);
    most = let f = h.most in omega (arith, f, longer);
    put = λ n.
        account_set slots lock.number n (Some a) within
        ∙ (ap (λ o. cond (n == lock.number) (Some (value_of a)) o) (h.put n)
        ∙ (ap (λ k. cond (n == lock.number) (Some (value_of a)) (put_at (write_numbers (drop (i + 1) locks)) (accounts_of (drop k all)) old n)) longer
        ∙ (sym (put_front lock.number (write_numbers (drop (i + 1) locks)) (value_of a) (accounts_of (drop (m + 1) all)) old n)
        ∙ sym (ap₂ (λ (ns : List ℕ) (vs : List Shared). put_at ns (accounts_of vs) old n) numbers_here all_here))));
  }
    where
      m : ℕ
      m = length rest

      longer : length left ≡ m + 1
      longer = ap length pop ∙ length_push rest a

      is_front : take (m + 1) all ≡ rest ++ a ∷ []
      is_front = ap (λ k. take k all) (sym longer) ∙ (sym h.front ∙ pop)

      numbers_here : write_numbers (drop i locks) ≡ lock.number ∷ write_numbers (drop (i + 1) locks)
      numbers_here = ap write_numbers lock_here ∙ writes_front lock (drop (i + 1) locks) w

      item : get_or all m a ≡ a
      item = sym (get_or-take (m + 1) all m a (omega arith)) ∙ (ap (λ xs. get_or xs m a) is_front ∙ get_or_at rest a [] a m refl)

      all_here : drop m all ≡ a ∷ drop (m + 1) all
      all_here = drop_more all m a (let f = h.most in omega (arith, f, longer)) ∙ ap (λ x. x ∷ drop (m + 1) all) item

-- one turn from the back, where a lock writes, and where it reads
pub put_write_at : (slots : List (Option Shared)) (locks : List NumberedLock) (at : ℕ) (all left rest : List Shared) (o : Option Shared) (old : ℕ → Option Account) (lock d : NumberedLock)
    → PutSoFar slots locks at all left old → 0 < at → lock ≡ get_or locks (at - 1) d
    → IfSome o (λ x. left ≡ rest ++ x ∷ []) → IfNone o ((left ≡ []) × (rest ≡ [])) → lock.write ≡ true
    → All (λ l. l.number < length slots) locks
    → PutSoFar (set slots lock.number o) locks (at - 1) all rest old
put_write_at slots locks at all left rest o old lock d h more here some none w within = by_case o some none
  where
    next : at ≡ at - 1 + 1
    next = omega arith

    there : PutSoFar slots locks (at - 1 + 1) all left old
    there = subst (λ k. PutSoFar slots locks k all left old) next h

    short : at - 1 < length locks
    short = let b = h.below in omega arith

    read : lock ≡ get_or locks (at - 1) lock
    read = here ∙ get_or_default locks (at - 1) d lock short

    below : lock.number < length slots
    below = subst (λ (l : NumberedLock). l.number < length slots) (sym here) (within (at - 1) d short)

    by_case : (o : Option Shared) → IfSome o (λ x. left ≡ rest ++ x ∷ []) → IfNone o ((left ≡ []) × (rest ≡ [])) → PutSoFar (set slots lock.number o) locks (at - 1) all rest old
    by_case (Some a) some none = put_write slots locks (at - 1) all left old lock there read rest a some w below
    by_case None some none = let a = ap length none.0 in let b = counted slots locks (at - 1) all left old lock there read in let one = ap length (writes_one lock w) in absurd (omega arith)

-- the values of write locks go back
pub record BackSoFar (slots : List (Option Shared)) (locks : List NumberedLock) (all left : List Shared) (old : ℕ → Option Account) : Type 0 where
  pub front : left ≡ take (length left) all
  pub fewer : length left ≤ length all
  pub put : (n : ℕ) → account_at slots n ≡ put_back_at (drop (length left) (take (length all) locks)) (accounts_of (drop (length left) all)) old n

pub back_step : (slots next : List (Option Shared)) (locks : List NumberedLock) (all left rest : List Shared) (a : Shared) (old : ℕ → Option Account) (lock : NumberedLock)
    → BackSoFar slots locks all left old → left ≡ rest ++ a ∷ [] → length all ≤ length locks → lock ≡ get_or locks (length rest) lock
    → ((n : ℕ) → account_at next n ≡ cond (lock.write && (n == lock.number)) (Some (value_of a)) (account_at slots n))
    → BackSoFar next locks all rest old
back_step slots next locks all left rest a old lock h pop fits here written = record {
  front = sym (take_at rest (a ∷ []) m refl) ∙ (sym (ap (take m) is_front) ∙ take-take m (m + 1) all (omega arith));
  fewer = let r = h.fewer in omega (arith, longer);
  put = λ n.
      written n
      ∙ (ap (λ o. cond (lock.write && (n == lock.number)) (Some (value_of a)) o) (h.put n)
      ∙ (ap (λ k. cond (lock.write && (n == lock.number)) (Some (value_of a)) (put_back_at (drop k mine) (accounts_of (drop k all)) old n)) longer
      ∙ sym (ap₂ (λ (ls : List NumberedLock) (vs : List Shared). put_back_at ls (accounts_of vs) old n) locks_here all_here)));
}
  where
    mine : List NumberedLock
    mine = take (length all) locks

    m : ℕ
    m = length rest

    longer : length left ≡ m + 1
    longer = ap length pop ∙ length_push rest a

    is_front : take (m + 1) all ≡ rest ++ a ∷ []
    is_front = ap (λ k. take k all) (sym longer) ∙ (sym h.front ∙ pop)

    below : m < length all
    below = let r = h.fewer in omega (arith, longer)

    mine_length : length mine ≡ length all
    mine_length = length-take-le (length all) locks fits

    locks_here : drop m mine ≡ lock ∷ drop (m + 1) mine
    locks_here = drop_more mine m lock (omega (arith, below, mine_length)) ∙ ap (λ x. x ∷ drop (m + 1) mine) (get_or-take (length all) locks m lock below ∙ sym here)

    item : get_or all m a ≡ a
    item = sym (get_or-take (m + 1) all m a (omega arith)) ∙ (ap (λ xs. get_or xs m a) is_front ∙ get_or_at rest a [] a m refl)

    all_here : drop m all ≡ a ∷ drop (m + 1) all
    all_here = drop_more all m a below ∙ ap (λ x. x ∷ drop (m + 1) all) item

module _ (slots : List (Option Shared)) (locks : List NumberedLock) (all left rest : List Shared) (a : Shared) (old : ℕ → Option Account) (at : ℕ) (d : NumberedLock)
    (h : BackSoFar slots locks all left old) (pop : left ≡ rest ++ a ∷ []) (fits : length all ≤ length locks) (here : at ≡ length rest) where
  read_lock : get_or locks at d ≡ get_or locks (length rest) (get_or locks at d)
  read_lock = ap (λ k. get_or locks k d) here ∙ get_or_default locks (length rest) d (get_or locks at d) (let r = h.fewer in let e = ap length pop ∙ length_push rest a in omega (arith, fits))

  pub back_write : (first : List (Option Shared)) → All (λ x. x.number < length first) locks → length slots ≡ length first → (get_or locks at d).write ≡ true
      → BackSoFar (set slots (get_or locks at d).number (Some a)) locks all rest old
  back_write first within same w =
      let l : (get_or locks at d).number < length slots = subst (λ k. (get_or locks at d).number < k) (sym same)
      (within at d (let r = h.fewer in let e = ap length pop
      ∙ length_push rest a in omega (arith, fits, here))) in
      back_step slots (set slots (get_or locks at d).number (Some a)) locks all left rest a old (get_or locks at d) h pop fits read_lock (λ n.
      account_set slots (get_or locks at d).number n (Some a) l ∙ ap (λ b. cond (b && (n == (get_or locks at d).number)) (Some (value_of a)) (account_at slots n)) (sym w))

  pub back_skip : (get_or locks at d).write ≡ false → BackSoFar slots locks all rest old
  back_skip w =
      back_step slots slots locks all left rest a old (get_or locks at d) h pop fits read_lock (λ n.
      ap (λ b. cond (b && (n == (get_or locks at d).number)) (Some (value_of a)) (account_at slots n)) (sym w))
