-- What stands in the slots once all positions are done.
use Rattle.std.proofs.Common.{◌≡◌, ℕ, zero, suc, ◌+◌, ◌-◌, ◌^◌, ◌<◌, ◌≤◌, Bool, true, false, inl, inr, List, [], ◌∷◌, map, ◌++◌, length, get_or, All, Option, None, Some, Result, Ok, Err, refl, sym, ◌∙◌, ap, ap₂, subst, arith}
use Rattle.std.specs.Prelude.{option_to_list, IfOk}
use Rattle.std.specs.List.{IsDistinct, flat_map, range_with_len, zip}
use Rattle.std.specs.Map.{keys_of}
use Rattle.std.specs.Option.{option_map}
use Rattle.std.proofs.lemmas.Bool.{or_cases, both_ways, false_from_ne_true, cond-true, cond-false}
use Rattle.std.proofs.lemmas.List.Sums.{sum_by-cons}
use Rattle.std.proofs.lemmas.List.Elements.{All-from_recursion}
use Rattle.sol_base.specs.declared.key.Key.{Key}
use Rattle.sol_base.specs.declared.account.Account.{Account}
use Rattle.sol_base.specs.Accounts.{empty_account}
use Rattle.sol_base.proofs.KeyLaws.{same_key-true}
use Rattle.tx_report.specs.declared.outcome.Outcome.{Outcome}
use Rattle.account_store.specs.State.{State, get, at, sum, kept, with_entries, lamports_of, IsHeld, IsState}
use Rattle.account_store.specs.Shared.{seen}
use Rattle.bank_law.specs.declared.event.Event.{Event}
use Rattle.bank_law.specs.Job.{Job, has_key, same_key}
use Rattle.bank_law.specs.Serial.{serial, result}
use Rattle.bank_law.specs.Machine.{Run}
use Rattle.bank_law.specs.Lawful.{IsLawful, IsShort, IsSettled, lamports_under}
use Rattle.bank_law.specs.Machine.{AllDone}
use Rattle.bank_law.proofs.Keys.{written_declared}
use Rattle.bank_law.proofs.Ends.{accounts_end, outcomes_end}
use Rattle.bank_law.proofs.Supply.{serial_less, serial_fits, unwritten}
use Rattle.bank_law.specs.SerialState.{serial_state}
use Rattle.bank_law.proofs.States.{states_run, serial_states}
use Rattle.account_store.proofs.StateLaws.{get-at, same_at}
use Rattle.prio_graph.specs.Ready.{Positions}
use Rattle.bank_core.specs.Slots.{Shared, value_of, account_at, in_slot, slot_lamports, held_in}
use Rattle.bank_core.specs.Keeping.{Keeps, IsApart, AreEnds, outcome_of}
use Rattle.lock_table.specs.Numbers.{numbered_key}
use Rattle.bank_core.specs.Ends.{serial_outcomes}
use Rattle.bank_core.proofs.Supply.{apart_sum, is_start, among_at}
use Rattle.bank_core.proofs.Merges.{held_each, held_sum, held_distinct, with_these, with_others}

-- where a key stands
place_of : (ks : List Key) (key : Key) → has_key key ks ≡ true → (n : ℕ) × (n < length ks) × (key ≡ numbered_key ks n)
place_of [] key h = absurd (cc)
place_of (k ∷ ks) key h = elim (or_cases (same_key key k) (has_key key ks) h) [
  | inl t ↦ (zero, omega arith, same_key-true key k t)
  | inr r ↦ let q = place_of ks key r in (suc q.0, (let l = q.1 in omega arith), q.2)
]

summed : (slots : List (Option Shared)) (ks : List Key) (f : Key → Account) → length slots ≡ length ks
    → ((n : ℕ) → n < length ks → in_slot (account_at slots n) ≡ f (numbered_key ks n))
    → slot_lamports slots ≡ lamports_under f ks
summed [] [] f e same = refl
summed [] (k ∷ ks) f e same = absurd (omega (arith, e))
summed (s ∷ slots) [] f e same = absurd (omega (arith, e))
summed (s ∷ slots) (k ∷ ks) f e same =
    let one = sum_by-cons (λ (slot : Option Shared). (in_slot (option_map value_of slot)).lamports) s slots in
    let two = sum_by-cons (λ (key : Key). (f key).lamports) k ks in
    let here = ap (λ (a : Account). a.lamports) (same 0 (omega arith)) in
    let rest = summed slots ks f (omega (arith, e)) (λ n l. same (suc n) (omega arith)) in
    omega (arith, one, two, here, rest)

-- values that are all there, listed
listed : {X : Type 0} (os : List (Option X)) (f : ℕ → X) (a : ℕ) → ((i : ℕ) → i < length os → get_or os i None ≡ Some (f (a + i))) → flat_map option_to_list os ≡ map f (range_with_len a (length os))
listed [] f a all = refl
listed (o ∷ os) f a all =
    ap₂ (λ xs ys. xs ++ ys) (ap option_to_list (all 0 (omega arith)) ∙ ap (λ n. f n ∷ []) (omega arith))
    (listed os f (a + 1) (λ i l. all (suc i) (omega arith) ∙ ap (λ n. Some (f n)) (omega arith)))

-- what a core keeps once all its positions are done
module _ (job : Job) (start rest : State) (ks : List Key) (p : Positions) (slots : List (Option Shared)) (outcomes : List (Option Outcome)) (journal : List Event)
    (W : IsLawful job) (K : Keeps job (at start) ks p slots outcomes journal) (A : IsApart start rest ks) (D : AllDone job (Run job (at start) journal)) where
  pub core_ends : AreEnds job start rest ks slots
  core_ends = record {
    lawful = W;
    starts = is_start job start rest ks p slots outcomes journal K A;
    apart = A;
    slots_length = K.slots_length;
    stored = λ n l. ap in_slot (K.stored n l ∙ accounts_end job (at start) journal K.legal D (numbered_key ks n));
  }

  pub core_outcomes : flat_map option_to_list outcomes ≡ serial_outcomes job (at start)
  core_outcomes =
      let all = outcomes_end job (at start) journal K.legal D in
      listed outcomes (result job (at start)) 0
      (λ i l. let below : i < job.count = let e = K.outcomes_length in omega (arith, e, l) in K.kept i below
      ∙ ap outcome_of (all i below) ∙ ap (λ n. Some (result job (at start) n)) (omega arith))
      ∙ ap (λ n. map (result job (at start)) (range_with_len 0 n)) K.outcomes_length

-- two facts of a value that may be there
pub both_ok : {X E : Type 0} (r : Result X E) (P Q R : X → Type 0) → ((x : X) → P x → Q x → R x) → IfOk r P → IfOk r Q → IfOk r R
both_ok (Ok x) P Q R then p q = then x p q
both_ok (Err e) P Q R then p q = tt

-- and what comes of it
module _ (job : Job) (start rest : State) (ks : List Key) (slots : List (Option Shared)) (E : AreEnds job start rest ks slots) where
  slot_fits : (n : ℕ) → n < length ks → IsShort (in_slot (account_at slots n)) × IsSettled (in_slot (account_at slots n))
  slot_fits n l =
      let fits = serial_fits job (at start) ks E.lawful E.starts job.count (omega arith) (numbered_key ks n) in
      subst (λ a. IsShort a × IsSettled a) (sym (E.stored n l)) fits

  fresh : (key : Key) → has_key key ks ≡ true → at rest key ≡ empty_account
  fresh key h = E.apart.at_rest key ∙ cond-true (has_key key ks) empty_account (at start key) h

  -- what is put back, which the other accounts have room for
  abbrev Back : List (Key × Shared)
  Back = held_in (zip ks slots)

  pub back_distinct : IsDistinct same_key (keys_of Back)
  back_distinct = held_distinct ks slots E.starts.distinct

  pub back_absent : All (λ e. get rest e.0 ≡ None) Back
  back_absent = All-from_recursion _ Back
      (held_each (λ e. get rest e.0 ≡ None) ks slots
      (λ n share l here more. get-at rest (numbered_key ks n) E.apart.is_rest
      ∙ ap kept (fresh (numbered_key ks n) (among_at ks n l))))

  pub back_held : All (λ e. IsHeld (value_of e.1)) Back
  back_held = All-from_recursion _ Back
      (held_each (λ e. IsHeld (value_of e.1)) ks slots
      (λ n share l here more. (
        more,
        subst (λ slot. IsShort (in_slot (option_map value_of slot))) here
            (slot_fits n l).0,
      )))

  pub back_fits : sum rest + lamports_of (seen Back) ≤ 2 ^ 64 - 1
  back_fits =
      let same = summed slots ks (serial job (at start) job.count) E.slots_length E.stored in
      let less = serial_less job (at start) ks E.lawful E.starts job.count (omega arith) in
      let all = apart_sum start rest ks E.starts.distinct E.apart in
      let most = E.apart.is_start.fits in
      omega (arith, same, less, all, most, held_sum ks slots E.slots_length)

  -- the accounts with these are those of the serial run
  pub joined_accounts : (key : Key) → at (with_entries rest (seen Back)) key ≡ serial job (at start) job.count key
  joined_accounts key = by_case (has_key key ks) refl
    where
      by_case : (b : Bool) → has_key key ks ≡ b → at (with_entries rest (seen Back)) key ≡ serial job (at start) job.count key
      by_case true e =
          let place = place_of ks key e in
          let here = with_these rest ks slots place.0 place.1 E.slots_length E.starts.distinct (λ m l. (slot_fits m l).1) (λ m l. fresh (numbered_key ks m) (among_at ks m l)) in
          subst (λ k. at (with_entries rest (seen Back)) k ≡ serial job (at start) job.count k) (sym place.2) (here ∙ E.stored place.0 place.1)
      by_case false e =
          with_others rest ks slots key e ∙ (E.apart.at_rest key ∙ (cond-false (has_key key ks) empty_account (at start key) e
          ∙ sym (unwritten job (at start) key job.count (λ i l. false_from_ne_true _ (λ w. both_ways _ e (E.starts.all i key l (written_declared (job.locks i) key w)))))))

  -- also as a state
  pub joined_state : IsState (with_entries rest (seen Back)) → with_entries rest (seen Back) ≡ serial_state job start job.count
  joined_state is =
      same_at _ (serial_state job start job.count) is (serial_states job start E.lawful E.apart.is_start job.count (omega arith))
      (λ key. joined_accounts key ∙ sym (states_run job start E.lawful E.apart.is_start job.count (omega arith) key))
