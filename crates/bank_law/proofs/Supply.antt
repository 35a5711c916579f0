-- The lamports and the data of a lawful work.
use Rattle.std.proofs.Common.{◌≡◌, ℕ, zero, suc, ◌+◌, ◌^◌, ◌<◌, ◌≤◌, Bool, true, false, ◌||◌, cond, inl, inr, List, [], ◌∷◌, map, filter, length, All, refl, sym, ◌∙◌, ap, ap₂, subst, arith}
use Rattle.std.specs.Prelude.{sum_by}
use Rattle.std.specs.List.{IsDistinct}
use Rattle.std.proofs.lemmas.Bool.{both_ways, or_cases, false≢true, cond_both, cond-true, cond-false, false_from_ne_true}
use Rattle.std.proofs.lemmas.List.{length-map}
use Rattle.std.proofs.lemmas.List.Elements.{All-map, All-cons, All-head, All-nil, All-tail}
use Rattle.std.proofs.lemmas.List.Sums.{sum_by-cons}
use Rattle.spec_base.specs.Sums.{total}
use Rattle.sol_base.specs.declared.key.Key.{Key}
use Rattle.sol_base.specs.declared.account.Account.{Account}
use Rattle.sol_base.specs.declared.lock.Lock.{Lock}
use Rattle.sol_base.specs.Accounts.{empty_account}
use Rattle.bank_law.specs.Job.{Job, same_key, has_key, lock_keys, keys, write_keys, writes, beside}
use Rattle.bank_law.specs.Serial.{serial, performed}
use Rattle.bank_law.specs.Machine.{is_waiting, Run}
use Rattle.bank_law.specs.Sound.{Agrees, Sound}
use Rattle.bank_law.specs.Lawful.{IsShort, AreShort, IsSettled, AreSettled, lamports_in, lamports_under, lent_for_writing, Fits, IsLawful, IsStart}
use Rattle.bank_law.specs.Laws.{SerialRunsFit, SerialRunsHaveNoMore, LoansFit, LoansHaveNoMore, LamportsMove, UnwrittenStays}
use Rattle.bank_law.proofs.Keys.{same_key-true, same_key-self, same_key-sym, has_key-first, has_key-rest, has_key-none, written_declared}
use Rattle.bank_law.proofs.Events.{run_sound}

-- no key stands twice
abbrev pub AreApart : List Key → Type 0
AreApart [] = Unit {0}
AreApart (key ∷ ks) = (has_key key ks ≡ false) × AreApart ks

pub apart_if : (ks : List Key) → IsDistinct same_key ks → AreApart ks
unfolding IsDistinct
apart_if [] a = tt
apart_if (k ∷ ks) a = (has_key-none k ks a.0, apart_if ks a.1)

sum_by-total : {X : Type 0} (f : X → ℕ) (xs : List X) → sum_by f xs ≡ total f xs
sum_by-total f [] = refl
sum_by-total f (x ∷ xs) = let first = sum_by-cons f x xs in let rest = sum_by-total f xs in omega (arith, first, rest)

total-map : {X Y : Type 0} (f : Y → ℕ) (g : X → Y) (xs : List X) → total f (map g xs) ≡ total (λ x. f (g x)) xs
total-map f g [] = refl
total-map f g (x ∷ xs) = ap (λ n. f (g x) + n) (total-map f g xs)

-- f of a key, where the test passes
abbrev where_true : Bool → ℕ → ℕ
where_true b n = cond b n 0

total-none : (ks : List Key) (test : Key → Bool) (f : Key → ℕ) → ((key : Key) → has_key key ks ≡ true → test key ≡ false) → total (λ key. where_true (test key) (f key)) ks ≡ 0
total-none [] test f h = refl
total-none (k ∷ ks) test f h =
    let here = cond-false (test k) (f k) 0 (h k (has_key-first k ks)) in
    let rest = total-none ks test f (λ key m. h key (has_key-rest key k ks m)) in
    omega (arith, here, rest)

-- one key of those that are apart
total-one : (ks : List Key) (f : Key → ℕ) (key : Key) → AreApart ks → has_key key ks ≡ true → total (λ k. where_true (same_key k key) (f k)) ks ≡ f key
total-one [] f key a h = absurd (false≢true h)
total-one (x ∷ xs) f key a h = by_case (same_key key x) refl (total-one xs f key a.1)
  where
    by_case : (b : Bool) → same_key key x ≡ b → (has_key key xs ≡ true → total (λ k. where_true (same_key k key) (f k)) xs ≡ f key)
        → where_true (same_key x key) (f x) + total (λ k. where_true (same_key k key) (f k)) xs ≡ f key
    by_case true e rest =
        let q : key ≡ x = same_key-true key x e in
        let here = cond-true (same_key x key) (f x) 0 (same_key-sym x key ∙ e) in
        let none = total-none xs (λ k. same_key k key) f (λ k m. false_from_ne_true _ (λ t. both_ways _ a.0 (subst (λ y. has_key y xs ≡ true) (same_key-true k key t ∙ q) m))) in
        let value = ap f q in
        omega (arith, here, none, value)
    by_case false e rest =
        let other = cond-false (same_key x key) (f x) 0 (same_key-sym x key ∙ e) in
        let more = rest (elim (or_cases (same_key key x) _ h) [ inl t ↦ absurd (both_ways _ e t) | inr r ↦ r ]) in
        omega (arith, other, more)

-- keys that are apart, among others
total-some : (ks : List Key) (f : Key → ℕ) (some : List Key) → AreApart ks → AreApart some → ((key : Key) → has_key key some ≡ true → has_key key ks ≡ true)
    → total (λ key. where_true (has_key key some) (f key)) ks ≡ total f some
total-some ks f [] a b h = total-none ks (λ key. false) f (λ key m. refl)
total-some ks f (x ∷ xs) a b h =
    let one = total-one ks f x a (h x (has_key-first x xs)) in
    let rest = total-some ks f xs a b.1 (λ key m. h key (has_key-rest key x xs m)) in
    let split = halves ks in
    omega (arith, one, rest, split)
  where
    halves : (ls : List Key) → total (λ key. where_true (same_key key x || has_key key xs) (f key)) ls
        ≡ total (λ key. where_true (same_key key x) (f key)) ls + total
        (λ key. where_true (has_key key xs) (f key)) ls
    halves [] = refl
    halves (k ∷ ls) =
        let rest = halves ls in
        let one = at_one (same_key k x) (has_key k xs) (λ t. subst (λ y. has_key y xs ≡ false) (sym (same_key-true k x t)) b.0) in
        omega (arith, rest, one)
      where
        at_one : (p q : Bool) → (p ≡ true → q ≡ false) → where_true (p || q) (f k) ≡ where_true p (f k) + where_true q (f k)
        at_one true true n = absurd (both_ways _ (n refl) refl)
        at_one true false n = omega arith
        at_one false q n = omega arith

-- values beside keys that are apart
total-beside : (ks : List Key) (vs : List Account) → AreApart ks → length vs ≡ length ks → total (λ key. (beside key ks vs).lamports) ks ≡ total (λ v. v.lamports) vs
total-beside [] [] a l = refl
total-beside [] (v ∷ vs) a l = absurd (omega (arith, l))
total-beside (x ∷ xs) [] a l = absurd (omega (arith, l))
total-beside (x ∷ xs) (v ∷ vs) a l =
    let here = ap (λ (u : Account). u.lamports) (cond-true (same_key x x) v (beside x xs vs) (same_key-self x)) in
    let rest = total-beside xs vs a.1 (omega (arith, l)) in
    let more = others xs (λ key m. false_from_ne_true _ (λ t. both_ways _ a.0 (subst (λ y. has_key y xs ≡ true) (same_key-true key x t) m))) in
    omega (arith, here, rest, more)
  where
    others : (ls : List Key) → ((key : Key) → has_key key ls ≡ true → same_key key x ≡ false)
        → total (λ key. (cond (same_key key x) v (beside key xs vs)).lamports) ls
        ≡ total (λ key. (beside key xs vs).lamports) ls
    others [] n = refl
    others (k ∷ ls) n = ap₂ (λ p q. p + q)
        (ap (λ (u : Account). u.lamports)
        (cond-false (same_key k x) v (beside k xs vs) (n k (has_key-first k ls))))
        (others ls (λ key m. n key (has_key-rest key k ls m)))

-- a part of what is added up
total-part : (test : Key → Bool) (f : Key → ℕ) (ks : List Key) → total (λ key. where_true (test key) (f key)) ks ≤ total f ks
total-part test f [] = omega arith
total-part test f (k ∷ ks) = let rest = total-part test f ks in let one = at_one (test k) in omega (arith, rest, one)
  where
    at_one : (b : Bool) → where_true b (f k) ≤ f k
    at_one true = omega arith
    at_one false = omega arith

-- the write locks of keys that are apart
pub written_apart : (locks : List Lock) → AreApart (lock_keys locks) → AreApart (lock_keys (filter (λ lock. lock.write) locks))
written_apart [] a = tt
written_apart (x ∷ xs) a = by_case x.write (written_apart xs a.1)
  where
    by_case : (b : Bool) → AreApart (lock_keys (filter (λ lock. lock.write) xs)) → AreApart (lock_keys (cond b (x ∷ filter (λ lock. lock.write) xs) (filter (λ lock. lock.write) xs)))
    by_case true rest = (false_from_ne_true _ (λ t. both_ways _ a.0 (written_declared xs x.key t)), rest)
    by_case false rest = rest

pub lent_for_writing-map : (accounts : Key → Account) (locks : List Lock) → lent_for_writing locks (map accounts (lock_keys locks)) ≡ map accounts (lock_keys (filter (λ lock. lock.write) locks))
lent_for_writing-map accounts [] = refl
lent_for_writing-map accounts (x ∷ xs) = by_case x.write (lent_for_writing-map accounts xs)
  where
    by_case : (b : Bool) → lent_for_writing xs (map accounts (lock_keys xs)) ≡ map accounts (lock_keys (filter (λ lock. lock.write) xs))
        → cond b (accounts x.key ∷ lent_for_writing xs (map accounts (lock_keys xs))) (lent_for_writing xs (map accounts (lock_keys xs)))
        ≡ map accounts (lock_keys (cond b (x ∷ filter (λ lock. lock.write) xs) (filter (λ lock. lock.write) xs)))
    by_case true rest = ap (λ vs. accounts x.key ∷ vs) rest
    by_case false rest = rest

pub lent_for_writing-length : (locks : List Lock) (vs : List Account) → length vs ≡ length locks → length (lent_for_writing locks vs) ≡ length (filter (λ lock. lock.write) locks)
lent_for_writing-length [] vs e = refl
lent_for_writing-length (x ∷ xs) [] e = absurd (omega (arith, e))
lent_for_writing-length (x ∷ xs) (v ∷ vs) e = by_case x.write (lent_for_writing-length xs vs (omega (arith, e)))
  where
    by_case : (b : Bool) → length (lent_for_writing xs vs) ≡ length (filter (λ lock. lock.write) xs)
        → length (cond b (v ∷ lent_for_writing xs vs) (lent_for_writing xs vs)) ≡ length (cond b (x ∷ filter (λ lock. lock.write) xs) (filter (λ lock. lock.write) xs))
    by_case true rest = ap suc rest
    by_case false rest = rest

pub lent_for_writing-short : (locks : List Lock) (vs : List Account) → AreShort vs → AreShort (lent_for_writing locks vs)
lent_for_writing-short [] vs s = All-nil IsShort
lent_for_writing-short (x ∷ xs) [] s = All-nil IsShort
lent_for_writing-short (x ∷ xs) (v ∷ vs) s =
    let rest = lent_for_writing-short xs vs (All-tail IsShort v vs s) in
    cond_both x.write (v ∷ lent_for_writing xs vs) (lent_for_writing xs vs) AreShort
    (λ t. All-cons IsShort v (lent_for_writing xs vs) (All-head IsShort v vs s) rest) (λ f. rest)

-- what holds of the empty account and of all values holds of the one beside a key
beside-all : (P : Account → Type 0) (key : Key) (ks : List Key) (vs : List Account) → P empty_account → All P vs → P (beside key ks vs)
beside-all P key [] vs none all = none
beside-all P key (k ∷ ks) [] none all = none
beside-all P key (k ∷ ks) (v ∷ vs) none all =
    cond_both (same_key key k) v (beside key ks vs) P (λ t. All-head P v vs all) (λ f. beside-all P key ks vs none (All-tail P v vs all))

abbrev balance : (Key → Account) → Key → ℕ
balance accounts key = (accounts key).lamports

module _ (job : Job) (start : Key → Account) (ks : List Key) (W : IsLawful job) (S : IsStart job start ks) where
  -- what is kept from one position to the next
  record Kept (n : ℕ) : Type 0 where
    supply : total (balance (serial job start n)) ks ≤ total (balance start) ks
    short : (key : Key) → IsShort (serial job start n key)
    settled : (key : Key) → IsSettled (serial job start n key)

  below_supply : total (balance start) ks < 2 ^ 64
  below_supply = let e = sum_by-total (balance start) ks in let s = S.supply in omega (arith, e, s)

  module _ (n : ℕ) (l : n < job.count) (K : Kept n) where
    abbrev accounts : Key → Account
    accounts = serial job start n

    abbrev given : List Account
    given = (performed job accounts n).written

    mine : total (balance accounts) (keys job n) ≤ total (balance start) ks
    mine =
        let some = total-some ks (balance accounts) (keys job n) (apart_if ks S.distinct) (apart_if (keys job n) (W.distinct n l)) (λ key m. S.all n key l m) in
        let part = total-part (λ key. has_key key (keys job n)) (balance accounts) ks in
        let less = K.supply in
        omega (arith, some, part, less)

    lent : lamports_in (map accounts (keys job n)) ≤ total (balance start) ks
    lent =
        let e = sum_by-total (λ (v : Account). v.lamports) (map accounts (keys job n)) in
        let m = total-map (λ (v : Account). v.lamports) accounts (keys job n) in
        let most = mine in
        omega (arith, e, m, most)

    fits : Fits (job.locks n) (map accounts (keys job n))
    fits = record {
      one_each = length-map (keys job n) accounts ∙ length-map (job.locks n) (λ (lock : Lock). lock.key);
      short = All-map IsShort accounts (keys job n) (λ k d h. K.short _);
      supply = let a = lent in let b = below_supply in omega (arith, a, b);
    }

    given_settled : AreSettled (map accounts (keys job n))
    given_settled = All-map IsSettled accounts (keys job n) (λ k d h. K.settled _)

    -- what is written has no more lamports than what was there
    written : total (λ (v : Account). v.lamports) given ≤ total (balance accounts) (write_keys job n)
    written =
        let bound = W.no_more n (map accounts (keys job n)) l fits in
        let a = sum_by-total (λ (v : Account). v.lamports) given in
        let b = sum_by-total (λ (v : Account). v.lamports) (lent_for_writing (job.locks n) (map accounts (keys job n))) in
        let c = ap (total (λ (v : Account). v.lamports)) (lent_for_writing-map accounts (job.locks n)) in
        let d = total-map (λ (v : Account). v.lamports) accounts (write_keys job n) in
        omega (arith, bound, a, b, c, d)

    -- the accounts written stand in for those that were there
    swapped : (ls : List Key) → total (balance (serial job start (suc n))) ls + total (λ key. where_true (writes job n key) (balance accounts key)) ls
        ≡ total (balance accounts) ls + total (λ key. where_true (writes job n key) (beside key (write_keys job n) given).lamports) ls
    swapped [] = refl
    swapped (k ∷ ls) = let rest = swapped ls in let one = at_one (writes job n k) in omega (arith, rest, one)
      where
        at_one : (b : Bool) → (cond b (beside k (write_keys job n) given) (accounts k)).lamports + where_true b (balance accounts k)
            ≡ balance accounts k + where_true b (beside k (write_keys job n) given).lamports
        at_one true = omega arith
        at_one false = omega arith

    inside : (key : Key) → has_key key (write_keys job n) ≡ true → has_key key ks ≡ true
    inside key m = S.all n key l (written_declared (job.locks n) key m)

    moved : total (balance (serial job start (suc n))) ks + total (balance accounts) (write_keys job n)
        ≡ total (balance accounts) ks + total (λ (v : Account). v.lamports) given
    moved =
        let apart = written_apart (job.locks n) (apart_if (keys job n) (W.distinct n l)) in
        let s = swapped ks in
        let old = total-some ks (balance accounts) (write_keys job n) (apart_if ks S.distinct) apart inside in
        let new = total-some ks (λ key. (beside key (write_keys job n) given).lamports) (write_keys job n) (apart_if ks S.distinct) apart inside in
        let each = total-beside (write_keys job n) given apart (W.one_each n (map accounts (keys job n)) l fits) in
        omega (arith, s, old, new, each)

    falls : total (balance (serial job start (suc n))) ks ≤ total (balance accounts) ks
    falls = let bound = written in let m = moved in omega (arith, bound, m)

    kept_next : Kept (suc n)
    kept_next = record {
      supply = let a = falls in let b = K.supply in omega (arith, a, b);
      short = λ key. cond_both (writes job n key) (beside key (write_keys job n) given) (accounts key) IsShort
          (λ t. beside-all IsShort key (write_keys job n) given (omega arith) (W.short n (map accounts (keys job n)) l fits)) (λ f. K.short key);
      settled = λ key. cond_both (writes job n key) (beside key (write_keys job n) given) (accounts key) IsSettled
          (λ t. beside-all IsSettled key (write_keys job n) given (λ none. refl) (W.settled n (map accounts (keys job n)) l fits given_settled)) (λ f. K.settled key);
    }

  kept : (n : ℕ) → n ≤ job.count → Kept n
  kept zero l = record { supply = omega arith; short = S.short; settled = S.settled }
  kept (suc n) l = kept_next n (omega arith) (kept n (omega arith))

-- the values on which a position is performed fit
pub turn_fits : (job : Job) (start : Key → Account) (ks : List Key) → IsLawful job → IsStart job start ks → (i : ℕ) → i < job.count
    → Fits (job.locks i) (map (serial job start i) (keys job i)) × (lamports_in (map (serial job start i) (keys job i)) ≤ lamports_under start ks)
turn_fits job start ks W S i l =
    let K = kept job start ks W S i (omega arith) in
    let e = sum_by-total (balance start) ks in
    let most = lent job start ks W S i l K in
    (fits job start ks W S i l K, omega (arith, e, most))

pub serial_less : SerialRunsHaveNoMore
serial_less job start ks W S n l =
    let old = sum_by-total (balance start) ks in
    let new = sum_by-total (balance (serial job start n)) ks in
    let less = (kept job start ks W S n l).supply in
    omega (arith, old, new, less)

pub serial_fits : SerialRunsFit
serial_fits job start ks W S n l key = let K = kept job start ks W S n l in (K.short key, K.settled key)

pub loans_fit : LoansFit
loans_fit job start ks W S events l lane i vs e =
    let R : Sound job start (Run job start events) = run_sound job start events l in
    let below = R.within i (ap is_waiting e) in
    let agrees = subst (λ x. Agrees job start i x) e (R.agrees i) in
    subst (Fits (job.locks i)) (sym agrees) (turn_fits job start ks W S i below).0

pub loans_less : LoansHaveNoMore
loans_less job start ks W S events l lane i vs e =
    let R : Sound job start (Run job start events) = run_sound job start events l in
    let below = R.within i (ap is_waiting e) in
    let agrees = subst (λ x. Agrees job start i x) e (R.agrees i) in
    let P : List Account → Type 0 = λ us. lamports_in us ≤ lamports_under start ks in
    subst P (sym agrees) (turn_fits job start ks W S i below).1

-- what is written stands in for what was lent for writing
pub lamports_move : LamportsMove
lamports_move job start ks W S n l =
    let K = kept job start ks W S n (omega (arith, l)) in
    let f : Account → ℕ = λ (v : Account). v.lamports in
    let accounts : Key → Account = serial job start n in
    let m = moved job start ks W S n l K in
    let old = sum_by-total (balance accounts) ks in
    let new = sum_by-total (balance (serial job start (suc n))) ks in
    let w = sum_by-total f (performed job accounts n).written in
    let a = sum_by-total f (lent_for_writing (job.locks n) (map accounts (keys job n))) in
    let c = ap (total f) (lent_for_writing-map accounts (job.locks n)) in
    let d = total-map f accounts (write_keys job n) in
    omega (arith, m, old, new, w, a, c, d)

-- a key that no position writes keeps its account
pub unwritten : UnwrittenStays
unwritten job start key zero none = refl
unwritten job start key (suc n) none =
    cond-false (writes job n key) _ (serial job start n key) (none n (omega arith))
    ∙ unwritten job start key n (λ i l. none i (omega arith))
