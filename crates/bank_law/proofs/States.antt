-- The serial run as a state.
use Rattle.std.proofs.Common.{◌≡◌, ◌==◌, ℕ, zero, suc, ◌+◌, ◌<◌, ◌≤◌, Bool, true, false, cond, inl, inr, List, [], ◌∷◌, map, length, Option, Some, None, refl, sym, ◌∙◌, ap, ap₂, subst, arith}
use Rattle.std.specs.Prelude.{unwrap_or, ◌||◌}
use Rattle.std.specs.List.{AllByRecursion}
use Rattle.std.specs.BTreeMap.{is_at}
use Rattle.std.proofs.lemmas.Bool.{eqb-true, both_ways, cases_eq, cond-false, false_from_ne_true}
use Rattle.std.proofs.lemmas.List.{length-map}
use Rattle.std.proofs.lemmas.List.Elements.{All-head, All-tail, All-map}
use Rattle.std.proofs.lemmas.List.Sums.{sum_by-cons}
use Rattle.sol_base.specs.declared.key.Key.{Key}
use Rattle.sol_base.specs.declared.account.Account.{Account}
use Rattle.sol_base.specs.declared.lock.Lock.{Lock}
use Rattle.sol_base.specs.Keys.{key_cmp}
use Rattle.sol_base.specs.Accounts.{empty_account}
use Rattle.sol_base.proofs.KeyLaws.{key_cmp_exact, key_cmp_total, same_key-true}
use Rattle.account_store.specs.State.{State, get, at, put, entries, sum, IsHeld, IsState}
use Rattle.account_store.proofs.EntryLists.{entries-insert_entry, entries-remove_entry, all-insert_entry, all-remove_entry}
use Rattle.account_store.proofs.StateLaws.{IsHeld-get, at-put, sum-put, put-zero, put-more}
use Rattle.account_store.proofs.SumLaws.{under-same, under-le, under-cons}
use Rattle.bank_law.specs.Job.{Job, same_key, has_key, keys, write_keys, writes, beside}
use Rattle.bank_law.specs.Serial.{serial, performed}
use Rattle.bank_law.specs.SerialState.{put_each, next_state, serial_state}
use Rattle.bank_law.specs.Lawful.{IsShort, AreShort, IsSettled, AreSettled, lamports_in, lamports_under, lent_for_writing, Fits, IsLawful}
use Rattle.bank_law.specs.Laws.{StatesRunSerially, SerialStatesAreStates, SumsMove}
use Rattle.bank_law.proofs.Keys.{map-same}
use Rattle.bank_law.proofs.Supply.{AreApart, apart_if, written_apart, lent_for_writing-map}

-- what is at each key after an account that is settled is put
pub at_put-settled : (s : State) (k : Key) (a : Account) (q : Key) → IsSettled a → at (put s k a) q ≡ cond (same_key q k) a (at s q)
at_put-settled s k a q fine = at-put s k a q ∙ ap (λ x. cond (same_key q k) x (at s q)) (by_case (a.lamports == 0) refl)
  where
    by_case : (b : Bool) → (a.lamports == 0) ≡ b → cond b empty_account a ≡ a
    by_case true e = sym (fine (eqb-true a.lamports 0 e))
    by_case false e = refl

held_or_empty : (s : State) (key : Key) → IsState s → (o : Option Account) → get s key ≡ o → IsShort (unwrap_or o empty_account) × IsSettled (unwrap_or o empty_account)
held_or_empty s key is None e = (omega arith, λ z. refl)
held_or_empty s key is (Some a) e = let h = IsHeld-get s key a is e in (h.1, λ z. let m = h.0 in absurd (omega (arith, z, m)))

-- each account of a state is short and settled
pub at_fits : (s : State) → IsState s → (key : Key) → IsShort (at s key) × IsSettled (at s key)
at_fits s is key = held_or_empty s key is (get s key) refl

pub lamports_in-cons : (v : Account) (vs : List Account) → lamports_in (v ∷ vs) ≡ v.lamports + lamports_in vs
lamports_in-cons v vs = sum_by-cons (λ (a : Account). a.lamports) v vs

pub lamports_in-map : (f : Key → Account) (ks : List Key) → lamports_in (map f ks) ≡ lamports_under f ks
lamports_in-map f [] = refl
lamports_in-map f (k ∷ ks) =
    let a = lamports_in-cons (f k) (map f ks) in
    let b = under-cons f k ks in
    let rest = lamports_in-map f ks in
    omega (arith, a, b, rest)

-- a key among others that are apart from this one is another key
other_key : (k : Key) (ks : List Key) (key : Key) → has_key k ks ≡ false → has_key key ks ≡ true → same_key key k ≡ false
other_key k ks key apart m = false_from_ne_true _ (λ e. both_ways _ apart (subst (λ x. has_key x ks ≡ true) (same_key-true key k e) m))

-- each account that is there has a lamport and is short
abbrev AreHeld : State → Type 0
AreHeld s = AllByRecursion (λ e. IsHeld e.1) (entries s)

put_held : (s : State) (k : Key) (a : Account) → AreHeld s → IsShort a → AreHeld (put s k a)
put_held s k a h short =
    elim (cases_eq a.lamports 0) [
      | inl z ↦ subst AreHeld (sym (put-zero s k a z))
          (subst (AllByRecursion (λ e. IsHeld e.1)) (sym (entries-remove_entry key_cmp_total key_cmp_exact s k))
          (all-remove_entry IsHeld (is_at (key_cmp k)) (entries s) h))
      | inr m ↦ let more : 1 ≤ a.lamports = omega (arith, m) in
          subst AreHeld (sym (put-more s k a more))
          (subst (AllByRecursion (λ e. IsHeld e.1)) (sym (entries-insert_entry key_cmp_total s k a))
          (all-insert_entry key_cmp IsHeld (entries s) k a h (more, short)))
    ]

each_held : (s : State) (ks : List Key) (vs : List Account) → AreHeld s → AreShort vs → AreHeld (put_each s ks vs)
each_held s [] vs h short = h
each_held s (k ∷ ks) [] h short = h
each_held s (k ∷ ks) (v ∷ vs) h short = each_held (put s k v) ks vs (put_held s k v h (All-head IsShort v vs short)) (All-tail IsShort v vs short)

-- what is at each key once accounts are put under keys that are apart
at-put_each : (s : State) (ks : List Key) (vs : List Account) → AreApart ks → length vs ≡ length ks → AreSettled vs → (key : Key)
    → at (put_each s ks vs) key ≡ cond (has_key key ks) (beside key ks vs) (at s key)
at-put_each s [] vs a l settled key = refl
at-put_each s (k ∷ ks) [] a l settled key = absurd (omega (arith, l))
at-put_each s (k ∷ ks) (v ∷ vs) a l settled key =
    at-put_each (put s k v) ks vs a.1 (omega (arith, l)) (All-tail IsSettled v vs settled) key
    ∙ ap (cond (has_key key ks) (beside key ks vs)) (at_put-settled s k v key (All-head IsSettled v vs settled))
    ∙ by_case (same_key key k) refl
  where
    by_case : (b : Bool) → same_key key k ≡ b
        → cond (has_key key ks) (beside key ks vs) (cond b v (at s key)) ≡ cond (b || has_key key ks) (cond b v (beside key ks vs)) (at s key)
    by_case true e = cond-false _ _ _ (subst (λ x. has_key x ks ≡ false) (sym (same_key-true key k e)) a.0)
    by_case false e = refl

sum-put_each : (s : State) (ks : List Key) (vs : List Account) → AreApart ks → length vs ≡ length ks → AreSettled vs
    → sum (put_each s ks vs) + lamports_under (at s) ks ≡ sum s + lamports_in vs
sum-put_each s [] [] a l settled = refl
sum-put_each s [] (v ∷ vs) a l settled = absurd (omega (arith, l))
sum-put_each s (k ∷ ks) [] a l settled = absurd (omega (arith, l))
sum-put_each s (k ∷ ks) (v ∷ vs) a l settled =
    let one = sum-put s k v in
    let rest = sum-put_each (put s k v) ks vs a.1 (omega (arith, l)) (All-tail IsSettled v vs settled) in
    let same = under-same (at (put s k v)) (at s) ks (λ key m. at_put-settled s k v key (All-head IsSettled v vs settled) ∙ cond-false (same_key key k) v (at s key) (other_key k ks key a.0 m)) in
    let b = under-cons (at s) k ks in
    let c = lamports_in-cons v vs in
    omega (arith, one, rest, same, b, c)

-- one position
module _ (job : Job) (s : State) (W : IsLawful job) (is : IsState s) (i : ℕ) (l : i < job.count) where
  abbrev given : List Account
  given = map (at s) (keys job i)

  abbrev written : List Account
  written = (performed job (at s) i).written

  fits : Fits (job.locks i) (map (at s) (keys job i))
  fits = record {
    one_each = length-map (keys job i) (at s) ∙ length-map (job.locks i) (λ (lock : Lock). lock.key);
    short = All-map IsShort (at s) (keys job i) (λ k d h. (at_fits s is _).0);
    supply =
        let a = lamports_in-map (at s) (keys job i) in
        let b = under-le s (keys job i) (W.distinct i l) in
        let c = is.fits in
        omega (arith, a, b, c);
  }

  settled : AreSettled written
  settled = W.settled i given l fits (All-map IsSettled (at s) (keys job i) (λ k d h. (at_fits s is _).1))

  apart : AreApart (write_keys job i)
  apart = written_apart (job.locks i) (apart_if (keys job i) (W.distinct i l))

  one_each : length (performed job (at s) i).written ≡ length (write_keys job i)
  one_each = W.one_each i given l fits

  at-next : (key : Key) → at (next_state job s i) key ≡ cond (writes job i key) (beside key (write_keys job i) (performed job (at s) i).written) (at s key)
  at-next key = at-put_each s (write_keys job i) written apart one_each settled key

  sum-next : sum (next_state job s i) + lamports_in (lent_for_writing (job.locks i) (map (at s) (keys job i))) ≡ sum s + lamports_in (performed job (at s) i).written
  sum-next =
      let e = sum-put_each s (write_keys job i) written apart one_each settled in
      let a = ap lamports_in (lent_for_writing-map (at s) (job.locks i)) in
      let b = lamports_in-map (at s) (write_keys job i) in
      omega (arith, e, a, b)

  next_is : IsState (next_state job s i)
  next_is = record {
    held = each_held s (write_keys job i) written is.held (W.short i given l fits);
    fits = let e = sum-next in let m = W.no_more i given l fits in let f = is.fits in omega (arith, e, m, f);
  }

module _ (job : Job) (start : State) (W : IsLawful job) (is : IsState start) where
  record Follows (n : ℕ) : Type 0 where
    state : IsState (serial_state job start n)
    same : (key : Key) → at (serial_state job start n) key ≡ serial job (at start) n key

  as_performed : (n : ℕ) → Follows n → performed job (at (serial_state job start n)) n ≡ performed job (serial job (at start) n) n
  as_performed n F = ap (job.effects n) (map-same (at (serial_state job start n)) (serial job (at start) n) (keys job n) (λ key m. F.same key))

  follows_next : (n : ℕ) → n < job.count → Follows n → Follows (suc n)
  follows_next n l F = record {
    state = next_is job (serial_state job start n) W F.state n l;
    same = λ key. at-next job (serial_state job start n) W F.state n l key
        ∙ ap₂ (λ (e : Rattle.bank_law.specs.Job.JobEffects) (v : Account). cond (writes job n key) (beside key (write_keys job n) e.written) v) (as_performed n F) (F.same key);
  }

  follows : (n : ℕ) → n ≤ job.count → Follows n
  follows zero l = record { state = is; same = λ key. refl }
  follows (suc n) l = follows_next n (omega arith) (follows n (omega arith))

pub states_run : StatesRunSerially
states_run job start W is n l key = (follows job start W is n l).same key

pub serial_states : SerialStatesAreStates
serial_states job start W is n l = (follows job start W is n l).state

pub sums_move : SumsMove
sums_move job start W is n l =
    let F = follows job start W is n (omega (arith, l)) in
    let e = sum-next job (serial_state job start n) W F.state n l in
    let a = ap (λ vs. lamports_in (lent_for_writing (job.locks n) vs)) (map-same (at (serial_state job start n)) (serial job (at start) n) (keys job n) (λ key m. F.same key)) in
    let b = ap (λ (x : Rattle.bank_law.specs.Job.JobEffects). lamports_in x.written) (as_performed job start W is n F) in
    omega (arith, e, a, b)
