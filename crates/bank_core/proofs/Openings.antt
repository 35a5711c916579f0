-- What a core begins with.
use Rattle.bank_core.specs.Counts.{max_lane_numbers}
use Rattle.std.proofs.Common.{◌≡◌, ℕ, zero, suc, ◌+◌, ◌*◌, ◌^◌, ◌<◌, ◌≤◌, Bool, true, false, cond, inl, inr, ◌⊎◌, List, [], ◌∷◌, ◌++◌, length, get_or, replicate, length-append, Option, Some, None, Result, Ok, Err, IfOk, refl, sym, ◌∙◌, ap, ap₂, subst, arith}
use Rattle.std.specs.Prelude.{not, map, unwrap_or, vec_len, vec_capacity}
use Rattle.std.specs.List.{IsDistinct}
use Rattle.std.specs.Option.{option_map}
use Rattle.std.specs.Arc.{arc_value}
use Rattle.std.specs.declared.vec.Vec.{Vec}
use Rattle.std.specs.declared.alloc.Global.{Global}
use Rattle.std.proofs.lemmas.Bool.{cases_eq, or_left, or_right}
use Rattle.std.proofs.lemmas.List.{get_or-replicate, length-replicate, length_push, get_or_push, get_or_append_left, length-map, get_or_default}
use Rattle.std.proofs.Math.ListN.{get_or-map}
use Rattle.std.proofs.lemmas.List.Folds.{list_any-append, list_any_at}
use Rattle.sol_base.specs.declared.key.Key.{Key}
use Rattle.sol_base.specs.declared.account.Account.{Account}
use Rattle.sol_base.specs.declared.lock.Lock.{Lock}
use Rattle.sol_base.specs.declared.memory.OutOfMemory.{OutOfMemory}
use Rattle.sol_base.specs.Accounts.{empty_account}
use Rattle.tx_report.specs.declared.outcome.Outcome.{Outcome}
use Rattle.account_store.specs.State.{State, get, at, without, IsState}
use Rattle.account_store.proofs.Walks.{get-without}
use Rattle.bank_law.specs.declared.event.Event.{Event}
use Rattle.bank_law.specs.Job.{Job, same_key, has_key, lock_keys}
use Rattle.bank_law.specs.Machine.{waiting, is_held, Run, held_count, count_below}
use Rattle.lock_table.specs.declared.locks.NumberedLock.{NumberedLock}
use Rattle.lock_table.specs.Numbers.{Numbers, numbered_key}
use Rattle.prio_graph.specs.declared.mark.Mark.TheVariants.{Waiting, Done}
use Rattle.prio_graph.specs.Ready.{set_at}
use Rattle.bank_core.specs.Slots.{Shared, value_of, account_at, in_slot}
use Rattle.bank_core.specs.Counts.{locks_before}
use Rattle.bank_core.specs.Openings.{AreKnown, NumbersAt}
use Rattle.bank_law.proofs.Keys.{same_key-self}
use Rattle.bank_core.specs.Keeping.{Keeps, IsApart, HasRoom, HasBuffers}
use Rattle.lock_table.proofs.Numbering.{no_key}
use Rattle.bank_core.proofs.Numbers.{as_many_locks}

-- the keys of the first n positions
pub record KeysSoFar (job : Job) (ks : List Key) (n : ℕ) : Type 0 where
  pub long : length ks ≡ locks_before job n
  pub all : (i : ℕ) → i < n → AreKnown ks (job.locks i)

known_more : (ks more : List Key) (locks : List Lock) → AreKnown ks locks → AreKnown (ks ++ more) locks
known_more ks more locks known k d l = list_any-append (λ x. same_key (get_or locks k d).key x) ks more ∙ or_left _ _ (known k d l)

known_own : (ks : List Key) (locks : List Lock) → AreKnown (ks ++ lock_keys locks) locks
known_own ks locks k d l =
    let key : Key = (get_or locks k d).key in
    list_any-append (λ x. same_key (get_or locks k d).key x) ks (lock_keys locks)
    ∙ or_right (has_key key ks) _ (list_any_at (λ x. same_key (get_or locks k d).key x) (lock_keys locks) k d.key (let e = length-map locks (λ (lock : Lock). lock.key) in omega (arith, e, l))
    (ap (same_key key) (get_or-map (λ (lock : Lock). lock.key) locks k d) ∙ same_key-self key))

pub keys_first : (job : Job) (ks : List Key) (n : ℕ) → ks ≡ [] → n ≡ 0 → KeysSoFar job ks n
keys_first job ks n nil e = record {
  long = ap length nil ∙ ap (locks_before job) (sym e);
  all = λ i l. absurd (omega (arith, e, l));
}

pub keys_next : (job : Job) (ks next : List Key) (n : ℕ) (locks : List Lock) → KeysSoFar job ks n → locks ≡ job.locks n → next ≡ ks ++ lock_keys locks → KeysSoFar job next (n + 1)
keys_next job ks next n locks K here grown = record {
  long =
      let a = K.long in
      let b = ap length grown in
      let c = length-append ks (lock_keys locks) in
      let d = length-map locks (λ (lock : Lock). lock.key) in
      let f = ap length here in
      let e : locks_before job (n + 1) ≡ length (job.locks n) + locks_before job n = ap (locks_before job) (let more : n + 1 ≡ suc n = omega arith in more) in
      omega (arith, a, b, c, d, e, f);
  all = λ i l. by_case i l (cases_eq i n);
}
  where
    by_case : (i : ℕ) → i < n + 1 → (i ≡ n) ⊎ (i ≡ n → ⊥) → AreKnown next (job.locks i)
    by_case i l (inl e) = subst (λ x. AreKnown next (job.locks x)) (sym e) (subst (λ ls. AreKnown next ls) here (subst (λ x. AreKnown x locks) (sym grown) (known_own ks locks)))
    by_case i l (inr d) = subst (λ x. AreKnown x (job.locks i)) (sym grown) (known_more ks (lock_keys locks) (job.locks i) (K.all i (omega (arith, l, d))))

-- the sets of the first n positions
pub record SetsSoFar (job : Job) (ks : List Key) (sets : List (List NumberedLock)) (n : ℕ) : Type 0 where
  pub long : length sets ≡ n
  pub numbered : (i : ℕ) → i < n → Numbers ks (job.locks i) (set_at sets i)

pub sets_first : (job : Job) (ks : List Key) (sets : List (List NumberedLock)) (n : ℕ) → sets ≡ [] → n ≡ 0 → SetsSoFar job ks sets n
sets_first job ks sets n nil e = record {
  long = ap length nil ∙ sym e;
  numbered = λ i l. absurd (omega (arith, e, l));
}

pub sets_next : (job : Job) (ks : List Key) (sets more : List (List NumberedLock)) (set : List NumberedLock)
    (n : ℕ) (locks : List Lock) → SetsSoFar job ks sets n → locks ≡ job.locks n → Numbers ks locks set
    → more ≡ sets ++ set ∷ []
    → SetsSoFar job ks more (n + 1)
sets_next job ks sets more set n locks S here numbers pushed = record {
  long = let l = S.long in ap length pushed ∙ (length_push sets set ∙ ap (λ m. m + 1) l);
  numbered = λ i l. by_case i l (cases_eq i n);
}
  where
    by_case : (i : ℕ) → i < n + 1 → (i ≡ n) ⊎ (i ≡ n → ⊥) → Numbers ks (job.locks i) (set_at more i)
    by_case i l (inl e) =
        subst (λ s. Numbers ks (job.locks i) s) (sym (ap (λ s. set_at s i) pushed ∙ (get_or_push sets set [] i (S.long ∙ sym e))))
        (subst (λ ls. Numbers ks ls set) (here ∙ ap job.locks (sym e)) numbers)
    by_case i l (inr d) =
        subst (λ s. Numbers ks (job.locks i) s) (sym (ap (λ s. set_at s i) pushed ∙ get_or_append_left sets (set ∷ []) [] i (let m = S.long in omega (arith, l, d, m))))
        (S.numbered i (omega (arith, l, d)))

-- the sets of slots that were filled at their places
slot_at : (sets : List (List NumberedLock)) (slots : List (Option (List NumberedLock))) (i : ℕ)
    → map (λ (set : List NumberedLock). Some set) sets ≡ slots → i < length slots
    → get_or slots i None ≡ Some (set_at sets i)
slot_at sets slots i is below =
    sym (ap (λ (os : List (Option (List NumberedLock))). get_or os i None) is)
    ∙ get_or_default (map (λ (set : List NumberedLock). Some set) sets) i None (Some []) (subst (λ (os : List (Option (List NumberedLock))). i < length os) (sym is) below)
    ∙ get_or-map (λ (set : List NumberedLock). Some set) sets i []

pub sets_read : (job : Job) (ks : List Key) (old new slots : List (Option (List NumberedLock)))
    (result : Result (List (List NumberedLock)) OutOfMemory) → length old ≡ job.count → length new ≡ length old
    → ((i : ℕ) (d : Option (List NumberedLock)) → i < length old → NumbersAt ks (job.locks i) (get_or new i d))
    → slots ≡ new → IfOk result (λ sets. map (λ (set : List NumberedLock). Some set) sets ≡ slots)
    → IfOk result (λ sets. (i : ℕ) → i < job.count → Numbers ks (job.locks i) (set_at sets i))
sets_read job ks old new slots (Err _) count kept each same is = tt
sets_read job ks old new slots (Ok sets) count kept each same is = λ i l.
    let below : i < length old = omega (arith, l, count) in
    let filled : i < length new = omega (arith, below, kept) in
    subst (λ (o : Option (List NumberedLock)). NumbersAt ks (job.locks i) o) (slot_at sets new i (is ∙ same) filled) (each i None below)

-- what the first slots have is taken out
pub record AreTaken (slots done left : List (Option (List NumberedLock))) (sets : List (List NumberedLock)) : Type 0 where
  pub all : done ++ left ≡ slots
  pub each : map (λ (set : List NumberedLock). Some set) sets ≡ done

same_shown : (o : Option Shared) → option_map value_of o ≡ option_map arc_value o
same_shown None = refl
same_shown (Some share) = refl

found_or : (o : Option Account) → in_slot o ≡ unwrap_or o empty_account
found_or None = refl
found_or (Some a) = refl

-- the accounts that were taken out of a state, in slots
module _ (s : State) (keys : List Key) (taken slots : List (Option Shared))
    (found : map (option_map arc_value) taken ≡ map (get s) keys)
    (filled : map (option_map value_of) slots ≡ map (λ o. Some (in_slot (option_map value_of o))) taken) where
  stand : (os : List (Option Shared)) (ks : List Key) → map (option_map arc_value) os ≡ map (get s) ks → map (λ o. Some (in_slot (option_map value_of o))) os ≡ map (λ k. Some (at s k)) ks
  stand [] [] e = refl
  stand [] (k ∷ ks) e = absurd (cc)
  stand (o ∷ os) [] e = absurd (cc)
  stand (o ∷ os) (k ∷ ks) e =
      let here : option_map arc_value o ≡ get s k = cc in
      let rest : map (option_map arc_value) os ≡ map (get s) ks = cc in
      ap₂ (λ (a : Account) (rest : List (Option Account)). Some a ∷ rest) (ap in_slot (same_shown o ∙ here) ∙ found_or (get s k)) (stand os ks rest)

  pub taken_long : length slots ≡ length keys
  taken_long = sym (length-map slots (option_map value_of)) ∙ ap length (filled ∙ stand taken keys found) ∙ length-map keys (λ k. Some (at s k))

  pub taken_stored : (n : ℕ) → n < length keys → account_at slots n ≡ Some (at s (numbered_key keys n))
  taken_stored n l =
      sym (get_or-map (option_map value_of) slots n None)
      ∙ ap (λ (shares : List (Option Account)). get_or shares n None) (filled ∙ stand taken keys found)
      ∙ get_or_default (map (λ k. Some (at s k)) keys) n None (Some (at s no_key)) (let e = length-map keys (λ k. Some (at s k)) in omega (arith, e, l))
      ∙ get_or-map (λ k. Some (at s k)) keys n no_key

-- the others stand apart
pub taken_apart : (s rest : State) (keys : List Key) → IsState s → IsState rest → rest ≡ without s keys → IsApart s rest keys
taken_apart s rest keys is left same = record {
  is_start = is;
  is_rest = left;
  at_rest = λ q. ap (λ t. at t q) same ∙ ap (λ o. unwrap_or o empty_account) (get-without s keys q) ∙ by_test (has_key q keys) (get s q);
}
  where
    by_test : (b : Bool) (o : Option Account) → unwrap_or (cond (not b) o None) empty_account ≡ cond b empty_account (unwrap_or o empty_account)
    by_test true o = refl
    by_test false o = refl

-- a core that has just begun
pub opening_keeps : (job : Job) (start : State) (ks : List Key) (sets : List (List NumberedLock)) (slots : List (Option Shared)) (outcomes : List (Option Outcome))
    → length sets ≡ job.count → ((i : ℕ) → i < job.count → Numbers ks (job.locks i) (set_at sets i)) → IsDistinct same_key ks → length slots ≡ length ks
    → ((n : ℕ) → n < length ks → account_at slots n ≡ Some (at start (numbered_key ks n))) → outcomes ≡ replicate job.count None
    → Keeps job (at start) ks (record { sets = sets; marks = replicate (length sets) Waiting }) slots outcomes []
opening_keeps job start ks sets slots outcomes long numbered distinct slots_long stored none = record {
  legal = tt;
  distinct = distinct;
  of = record {
    count = long;
    numbered = numbered;
    marked = λ i l. get_or-replicate (length sets) i Waiting Done (omega (arith, l, long));
  };
  slots_length = slots_long;
  stored = stored;
  outcomes_length = ap length none ∙ length-replicate job.count None;
  kept = λ i l. ap (λ os. get_or os i None) none ∙ get_or-replicate job.count i None None l;
}

pub opening_unheld : (n : ℕ) → count_below (λ i. is_held waiting) n ≡ 0
opening_unheld zero = refl
opening_unheld (suc n) = let rest = opening_unheld n in omega (arith, rest)

pub opening_room : (count lanes capacity : ℕ) (journal : List Event) → journal ≡ [] → count < 2 ^ 32
    → lanes ≤ max_lane_numbers → 4 * count + 4 * lanes ≤ capacity → HasRoom count lanes capacity journal
opening_room count lanes capacity journal nil few most room = subst (HasRoom count lanes capacity) (sym nil) (record {
  few = few;
  most = most;
  room = room;
  lanes_below = λ k d l. absurd (omega (arith, l));
  once = λ lane. omega arith;
})

pub opening_buffers : (job : Job) (ks : List Key) (sets : List (List NumberedLock)) (lanes room : ℕ)
    (journal : List Event) (buffers : List (Vec Shared Global)) → length sets ≡ job.count
    → ((i : ℕ) → i < job.count → Numbers ks (job.locks i) (set_at sets i))
    → ((i : ℕ) → i < length sets → length (set_at sets i) ≤ room) → length buffers ≡ lanes
    → ((lane : ℕ) (d : Vec Shared Global) → lane < lanes
    → (vec_len (get_or buffers lane d) ≡ 0) × (room ≤ vec_capacity (get_or buffers lane d)))
    → HasBuffers job lanes journal buffers
opening_buffers job ks sets lanes room journal buffers long numbered most many free = record {
  buffers_length = many;
  free = λ lane d l none. (
    (free lane d l).0,
    λ i below.
        let a = as_many_locks ks job i (set_at sets i) (numbered i below) in
        let b = most i (omega (arith, below, long)) in
        let c = (free lane d l).1 in
        omega (arith, a, b, c),
  );
}

pub opening_count : (job : Job) (start : Key → Account) (journal : List Event) → journal ≡ [] → 0 ≡ held_count job (Run job start journal)
opening_count job start journal nil = subst (λ j. 0 ≡ held_count job (Run job start j)) (sym nil) (sym (opening_unheld job.count))
