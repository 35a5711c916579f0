-- Keys by their numbers, and slots by keys.
use Rattle.std.proofs.Common.{◌≡◌, ℕ, ◌<◌, ◌==◌, Bool, true, false, ◌||◌, ◌&&◌, cond, List, [], ◌∷◌, map, filter, length, All, Option, Some, None, refl, sym, ◌∙◌, ap, ap₂, subst, arith, eqb-true}
use Rattle.std.specs.Prelude.{unwrap_or}
use Rattle.std.specs.List.{IsDistinct, AllByRecursion}
use Rattle.std.proofs.lemmas.Bool.{both_ways, false_from_ne_true, or_from}
use Rattle.std.proofs.lemmas.List.{length-map}
use Rattle.std.proofs.lemmas.List.Elements.{All-head, All-tail, All-map, All-filter}
use Rattle.std.proofs.lemmas.Map.Keys.{IsDistinct-head, IsDistinct-tail}
use Rattle.sol_base.specs.declared.key.Key.{Key}
use Rattle.sol_base.specs.declared.account.Account.{Account}
use Rattle.sol_base.specs.Accounts.{empty_account}
use Rattle.bank_law.specs.Job.{Job, same_key, has_key, lock_keys, keys, write_keys, beside}
use Rattle.bank_law.specs.Machine.{put_in, taken_out}
use Rattle.lock_table.specs.declared.locks.NumberedLock.{NumberedLock}
use Rattle.lock_table.specs.Numbers.{Numbers, keyed_lock, numbered_key}
use Rattle.lock_table.proofs.Tables.{equal_numbers}
use Rattle.bank_core.specs.Slots.{has, beside_number, numbers, write_numbers, put_at, taken_at, put_back_at, AreDistinct, in_slot, found}
use Rattle.bank_core.proofs.Lends.{written_number}

module _ (ks : List Key) (distinct : IsDistinct same_key ks) where
  pub has_is : (n : ℕ) (ns : List ℕ) → n < length ks → All (λ x. x < length ks) ns → has_key (numbered_key ks n) (map (numbered_key ks) ns) ≡ has n ns
  has_is n [] l a = refl
  has_is n (x ∷ xs) l a = ap₂ (λ b c. b || c) (equal_numbers ks distinct n x l (All-head (λ y. y < length ks) x xs a)) (has_is n xs l (All-tail (λ y. y < length ks) x xs a))

  pub beside_is : (n : ℕ) (ns : List ℕ) (vs : List Account) → n < length ks → All (λ x. x < length ks) ns → beside (numbered_key ks n) (map (numbered_key ks) ns) vs ≡ beside_number n ns vs
  beside_is n [] vs l a = refl
  beside_is n (x ∷ xs) [] l a = refl
  beside_is n (x ∷ xs) (v ∷ vs) l a = ap₂ (λ b c. cond b v c) (equal_numbers ks distinct n x l (All-head (λ y. y < length ks) x xs a)) (beside_is n xs vs l (All-tail (λ y. y < length ks) x xs a))

-- the keys of numbered locks
keys_are : (ks : List Key) (set : List NumberedLock) → lock_keys (map (keyed_lock ks) set) ≡ map (numbered_key ks) (numbers set)
keys_are ks [] = refl
keys_are ks (x ∷ xs) = ap (λ rest. numbered_key ks x.number ∷ rest) (keys_are ks xs)

written_are : (ks : List Key) (set : List NumberedLock) → lock_keys (filter (λ lock. lock.write) (map (keyed_lock ks) set)) ≡ map (numbered_key ks) (write_numbers set)
written_are ks [] = refl
written_are ks (x ∷ xs) = go x.write (written_are ks xs)
  where
    go : (b : Bool) → lock_keys (filter (λ lock. lock.write) (map (keyed_lock ks) xs)) ≡ map (numbered_key ks) (write_numbers xs)
        → lock_keys (cond b (keyed_lock ks x ∷ filter (λ lock. lock.write) (map (keyed_lock ks) xs))
        (filter (λ lock. lock.write) (map (keyed_lock ks) xs)))
        ≡ map (numbered_key ks) (numbers
        (cond b (x ∷ filter (λ lock. lock.write) xs) (filter (λ lock. lock.write) xs)))
    go true rest = ap (λ r. numbered_key ks x.number ∷ r) rest
    go false rest = rest

module _ (ks : List Key) (job : Job) (i : ℕ) (set : List NumberedLock) (N : Numbers ks (job.locks i) set) where
  pub keys_is : keys job i ≡ map (numbered_key ks) (numbers set)
  keys_is = ap lock_keys (sym N.stands_for) ∙ keys_are ks set

  pub write_keys_is : write_keys job i ≡ map (numbered_key ks) (write_numbers set)
  write_keys_is = ap (λ ls. lock_keys (filter (λ lock. lock.write) ls)) (sym N.stands_for) ∙ written_are ks set

  pub numbers_within : All (λ n. n < length ks) (numbers set)
  numbers_within = All-map (λ n. n < length ks) (λ (lock : NumberedLock). lock.number) set N.within

  pub written_within : All (λ n. n < length ks) (write_numbers set)
  written_within = All-map (λ n. n < length ks) (λ (lock : NumberedLock). lock.number)
      (filter (λ lock. lock.write) set)
      (All-filter (λ (lock : NumberedLock). lock.write) (λ lock. lock.number < length ks) set N.within)

  pub as_many_locks : length (job.locks i) ≡ length set
  as_many_locks = ap length (sym N.stands_for) ∙ length-map set (keyed_lock ks)

  pub as_many_written : length (write_keys job i) ≡ length (write_numbers set)
  as_many_written = ap length write_keys_is ∙ length-map (write_numbers set) (numbered_key ks)

  -- what is found in the slots is what is in the store
  pub found_is : (slots : ℕ → Option Account) (store : Key → Option Account) → ((n : ℕ) → n < length ks → slots n ≡ store (numbered_key ks n))
      → found set slots ≡ map (λ key. unwrap_or (store key) empty_account) (keys job i)
  found_is slots store stored = go set N.within ∙ ap (map (λ key. unwrap_or (store key) empty_account)) (sym keys_is)
    where
      same : (o : Option Account) → in_slot o ≡ unwrap_or o empty_account
      same (Some v) = refl
      same None = refl

      go : (ls : List NumberedLock) → All (λ lock. lock.number < length ks) ls → found ls slots ≡ map (λ key. unwrap_or (store key) empty_account) (map (numbered_key ks) (numbers ls))
      go [] w = refl
      go (x ∷ xs) w =
          ap₂ (λ (v : Account) (vs : List Account). v ∷ vs)
          (same (slots x.number) ∙ ap (λ o. unwrap_or o empty_account) (stored x.number (All-head (λ lock. lock.number < length ks) x xs w)))
          (go xs (All-tail (λ lock. lock.number < length ks) x xs w))

  module _ (distinct : IsDistinct same_key ks) (slots : ℕ → Option Account) (store : Key → Option Account) (stored : (n : ℕ) → n < length ks → slots n ≡ store (numbered_key ks n)) where
    -- keys leave the store as numbers leave the slots
    pub taken_is : (n : ℕ) → n < length ks → taken_at (write_numbers set) slots n ≡ taken_out (write_keys job i) store (numbered_key ks n)
    taken_is n l =
        ap₂ (λ b o. cond b None o) (sym (has_is ks distinct n (write_numbers set) l written_within) ∙ ap (has_key (numbered_key ks n)) (sym write_keys_is)) (stored n l)

    -- written accounts come into the store as into the slots
    pub written_is : (vs : List Account) (n : ℕ) → n < length ks → put_at (write_numbers set) vs slots n ≡ put_in (write_keys job i) (write_keys job i) vs store (numbered_key ks n)
    written_is vs n l =
        ap₂ (λ b o. cond b (Some (beside_number n (write_numbers set) vs)) o) (sym (has_is ks distinct n (write_numbers set) l written_within)) (stored n l)
        ∙ (ap (λ v. cond (has_key (numbered_key ks n) (map (numbered_key ks) (write_numbers set))) (Some v)
        (store (numbered_key ks n))) (sym (beside_is ks distinct n (write_numbers set) vs l written_within))
        ∙ ap (λ wk. put_in wk wk vs store (numbered_key ks n)) (sym write_keys_is))

    -- and the values that go back
    pub returned_is : AreDistinct set → (vs : List Account) → length vs ≡ length set → (n : ℕ) → n < length ks
        → put_back_at set vs slots n ≡ put_in (write_keys job i) (keys job i) vs store (numbered_key ks n)
    returned_is once vs many n l =
        back_is set vs n once many
        ∙ (ap₂ (λ b o. cond b (Some (beside_number n (numbers set) vs)) o) (sym (has_is ks distinct n (write_numbers set) l written_within)) (stored n l)
        ∙ (ap (λ v. cond (has_key (numbered_key ks n) (map (numbered_key ks) (write_numbers set))) (Some v)
        (store (numbered_key ks n))) (sym (beside_is ks distinct n (numbers set) vs l numbers_within))
        ∙ ap₂ (λ wk k. put_in wk k vs store (numbered_key ks n)) (sym write_keys_is) (sym keys_is)))
      where
        none_has : (m : ℕ) (ns : List ℕ) → AllByRecursion (λ y. (m == y) ≡ false) ns → has m ns ≡ false
        none_has m [] a = refl
        none_has m (y ∷ ys) a = or_from (m == y) (has m ys) a.0 (none_has m ys a.1)

        back_is : (ls : List NumberedLock) (us : List Account) (n : ℕ) → AreDistinct ls → length us ≡ length ls
            → put_back_at ls us slots n ≡ cond (has n (write_numbers ls))
            (Some (beside_number n (numbers ls) us)) (slots n)
        back_is [] us n d e = refl
        back_is (x ∷ xs) [] n d e = absurd (omega (arith, e))
        back_is (x ∷ xs) (u ∷ us) n d e =
            go x.write (back_is xs us n (IsDistinct-tail (λ a b. a == b) x.number (numbers xs) d) (omega (arith, e)))
          where
            apart : has x.number (numbers xs) ≡ false
            apart = none_has x.number (numbers xs) (IsDistinct-head (λ a b. a == b) x.number (numbers xs) d)

            unwritten : (n == x.number) ≡ true → has n (write_numbers xs) ≡ false
            unwritten t = false_from_ne_true _ (λ w. both_ways _ apart (subst (λ m. has m (numbers xs) ≡ true) (eqb-true n x.number t) (written_number n xs w)))

            P : Option Account
            P = put_back_at xs us slots n

            B : Account
            B = beside_number n (numbers xs) us

            w : Bool
            w = has n (write_numbers xs)

            pick : (c : Bool) → P ≡ cond w (Some B) (slots n) → cond c (Some u) P ≡ cond (c || w) (Some (cond c u B)) (slots n)
            pick true rest = refl
            pick false rest = rest

            skip : (c : Bool) → (c ≡ true → w ≡ false) → P ≡ cond w (Some B) (slots n) → P ≡ cond w (Some (cond c u B)) (slots n)
            skip true none rest = rest ∙ (ap (λ t. cond t (Some B) (slots n)) (none refl) ∙ sym (ap (λ t. cond t (Some u) (slots n)) (none refl)))
            skip false none rest = rest

            go : (b : Bool) → P ≡ cond w (Some B) (slots n)
                → cond (b && (n == x.number)) (Some u) P ≡ cond (has n (numbers (cond b (x ∷ filter (λ l. l.write) xs) (filter (λ l. l.write) xs)))) (Some (cond (n == x.number) u B)) (slots n)
            go true rest = pick (n == x.number) rest
            go false rest = skip (n == x.number) unwritten rest
