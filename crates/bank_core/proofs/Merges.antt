-- The accounts of slots, put back beside the others.
use Rattle.std.proofs.Common.{◌≡◌, ℕ, zero, suc, ◌+◌, ◌<◌, ◌≤◌, ◌==◌, Bool, true, false, cond, List, [], ◌∷◌, ◌++◌, length, get_or, Option, Some, None, refl, sym, ◌∙◌, ap, arith, eqb-true}
use Rattle.std.specs.List.{IsDistinct, AllByRecursion, cons_option, zip}
use Rattle.std.specs.Map.{keys_of}
use Rattle.std.specs.FinMap as map
use Rattle.std.specs.Option.{option_map}
use Rattle.std.proofs.lemmas.Bool.{or_parts, eqb-false, cond-true, cond-false}
use Rattle.std.proofs.lemmas.List.Sums.{sum_by-cons}
use Rattle.std.proofs.lemmas.List.Elements.{filter_map-append}
use Rattle.std.proofs.lemmas.Map.Keys.{IsDistinct-head, IsDistinct-tail, IsDistinct-cons}
use Rattle.sol_base.specs.declared.key.Key.{Key}
use Rattle.sol_base.specs.declared.account.Account.{Account}
use Rattle.sol_base.specs.Accounts.{empty_account}
use Rattle.sol_base.proofs.KeyLaws.{key_cmp_total, key_cmp_exact, same_key-self, same_key-sym}
use Rattle.account_store.specs.State.{State, at, with_entries, lamports_of}
use Rattle.account_store.specs.Shared.{seen}
use Rattle.account_store.proofs.EntryLists.{from_entries-entries}
use Rattle.account_store.proofs.StateLaws.{put-more}
use Rattle.account_store.proofs.SumLaws.{has_key-none}
use Rattle.bank_law.specs.Job.{same_key, has_key}
use Rattle.bank_law.specs.Lawful.{IsSettled}
use Rattle.bank_law.proofs.States.{at_put-settled}
use Rattle.lock_table.specs.Numbers.{numbered_key}
use Rattle.lock_table.proofs.Tables.{distinct-none}
use Rattle.bank_core.specs.Slots.{Shared, value_of, account_at, in_slot, slot_lamports, held_entry, held_in}

abbrev Slots : Type 0
Slots = List (Option Shared)

-- what is put back
abbrev Held : List Key → Slots → List (Key × Shared)
Held ks slots = held_in (zip ks slots)

-- what is put back with a slot that has an account, by whether it has no lamports
abbrev Next : Key → Shared → List Key → Slots → Bool → List (Key × Shared)
Next k share ks slots b = cons_option (cond b None (Some (k, share))) (Held ks slots)

some_there : (n : ℕ) → (n == 0) ≡ false → 1 ≤ n
some_there n e = let other = eqb-false n 0 e in omega (arith, other)

-- what holds of each account of a slot that has lamports holds of all that is put back
held_next : (P : Key × Shared → Type 0) (k : Key) (share : Shared) (ks : List Key) (slots : Slots) (b : Bool) → ((let a : Account = value_of share in a.lamports) == 0) ≡ b
    → ((let a : Account = value_of share in 1 ≤ a.lamports) → P (k, share)) → AllByRecursion P (Held ks slots) → AllByRecursion P (Next k share ks slots b)
held_next P k share ks slots true e here rest = rest
held_next P k share ks slots false e here rest = (here (some_there _ e), rest)

pub held_each : (P : Key × Shared → Type 0) (ks : List Key) (slots : Slots)
    → ((n : ℕ) (share : Shared) → n < length ks → get_or slots n None ≡ Some share → (let a : Account = value_of share in 1 ≤ a.lamports) → P (numbered_key ks n, share))
    → AllByRecursion P (Held ks slots)
held_each P [] slots each = tt
held_each P (k ∷ ks) [] each = tt
held_each P (k ∷ ks) (None ∷ slots) each = held_each P ks slots (λ n share l. each (suc n) share (omega (arith, l)))
held_each P (k ∷ ks) (Some share ∷ slots) each =
    held_next P k share ks slots ((let a : Account = value_of share in a.lamports) == 0) refl (each 0 share (omega arith) refl) (held_each P ks slots (λ n x l. each (suc n) x (omega (arith, l))))

keys_next : (P : Key → Type 0) (k : Key) (share : Shared) (ks : List Key) (slots : Slots) (b : Bool) → P k
    → AllByRecursion P (keys_of (Held ks slots)) → AllByRecursion P (keys_of (Next k share ks slots b))
keys_next P k share ks slots true here rest = rest
keys_next P k share ks slots false here rest = (here, rest)

held_keys : (P : Key → Type 0) (ks : List Key) (slots : Slots) → AllByRecursion P ks → AllByRecursion P (keys_of (Held ks slots))
held_keys P [] slots all = tt
held_keys P (k ∷ ks) [] all = tt
held_keys P (k ∷ ks) (None ∷ slots) all = held_keys P ks slots all.1
held_keys P (k ∷ ks) (Some share ∷ slots) all = keys_next P k share ks slots ((let a : Account = value_of share in a.lamports) == 0) all.0 (held_keys P ks slots all.1)

distinct_next : (k : Key) (share : Shared) (ks : List Key) (slots : Slots) (b : Bool)
    → AllByRecursion (λ y. same_key k y ≡ false) ks → IsDistinct same_key (keys_of (Held ks slots))
    → IsDistinct same_key (keys_of (Next k share ks slots b))
distinct_next k share ks slots true apart rest = rest
distinct_next k share ks slots false apart rest = IsDistinct-cons same_key k (keys_of (Held ks slots)) (held_keys (λ y. same_key k y ≡ false) ks slots apart) rest

pub held_distinct : (ks : List Key) (slots : Slots) → IsDistinct same_key ks → IsDistinct same_key (keys_of (Held ks slots))
held_distinct [] slots d = distinct-none
held_distinct (k ∷ ks) [] d = distinct-none
held_distinct (k ∷ ks) (None ∷ slots) d = held_distinct ks slots (IsDistinct-tail same_key k ks d)
held_distinct (k ∷ ks) (Some share ∷ slots) d =
    distinct_next k share ks slots ((let a : Account = value_of share in a.lamports) == 0) (IsDistinct-head same_key k ks d) (held_distinct ks slots (IsDistinct-tail same_key k ks d))

-- what is put back has the lamports of all slots
sum_next : (k : Key) (share : Shared) (ks : List Key) (slots : Slots) (b : Bool) → ((let a : Account = value_of share in a.lamports) == 0) ≡ b
    → lamports_of (seen (Held ks slots)) ≡ slot_lamports slots → lamports_of (seen (Next k share ks slots b)) ≡ slot_lamports (Some share ∷ slots)
sum_next k share ks slots b e rest = by_case b e
  where
    all : slot_lamports (Some share ∷ slots) ≡ (let a : Account = value_of share in a.lamports) + slot_lamports slots
    all = sum_by-cons (λ (slot : Option Shared). (in_slot (option_map value_of slot)).lamports) (Some share) slots

    by_case : (b : Bool) → ((let a : Account = value_of share in a.lamports) == 0) ≡ b → lamports_of (seen (Next k share ks slots b)) ≡ slot_lamports (Some share ∷ slots)
    by_case true e = let none = eqb-true _ 0 e in omega (arith, rest, all, none)
    by_case false e = let more = sum_by-cons (λ (entry : Key × Account). entry.1.lamports) (k, value_of share) (seen (Held ks slots)) in omega (arith, rest, all, more)

pub held_sum : (ks : List Key) (slots : Slots) → length slots ≡ length ks → lamports_of (seen (Held ks slots)) ≡ slot_lamports slots
held_sum [] [] e = refl
held_sum [] (slot ∷ slots) e = absurd (omega (arith, e))
held_sum (k ∷ ks) [] e = absurd (omega (arith, e))
held_sum (k ∷ ks) (None ∷ slots) e =
    let all : slot_lamports (None ∷ slots) ≡ 0 + slot_lamports slots = sum_by-cons (λ (slot : Option Shared). (in_slot (option_map value_of slot)).lamports) None slots in
    omega (arith, all, held_sum ks slots (omega (arith, e)))
held_sum (k ∷ ks) (Some share ∷ slots) e = sum_next k share ks slots ((let a : Account = value_of share in a.lamports) == 0) refl (held_sum ks slots (omega (arith, e)))

-- what holds of all keys holds of that of a number
at_number : (P : Key → Type 0) (ks : List Key) (n : ℕ) → AllByRecursion P ks → n < length ks → P (numbered_key ks n)
at_number P [] n all l = absurd (omega arith)
at_number P (k ∷ ks) zero all l = all.0
at_number P (k ∷ ks) (suc n) all l = at_number P ks n all.1 (omega arith)

module _ (s : State) where
  -- the accounts with those that are put back
  abbrev With : List Key → Slots → State
  With ks slots = with_entries s (seen (Held ks slots))

  abbrev WithNext : Key → Shared → List Key → Slots → Bool → State
  WithNext k share ks slots b = with_entries s (seen (Next k share ks slots b))

  with_none : with_entries s [] ≡ s
  with_none = from_entries-entries key_cmp_total key_cmp_exact s

  -- with one account more
  with_one : (t : State) (k : Key) (a : Account) (q : Key) → (a.lamports == 0) ≡ false → at (map.insert t k a) q ≡ cond (same_key q k) a (at t q)
  with_one t k a q e =
      ap (λ u. at u q) (sym (put-more t k a (some_there a.lamports e)))
      ∙ at_put-settled t k a q (λ none. let there = some_there a.lamports e in absurd (omega (arith, there, none)))

  -- a key of none, or of another slot
  other_next : (k : Key) (share : Shared) (ks : List Key) (slots : Slots) (q : Key) (there : Account) (b : Bool) → ((let a : Account = value_of share in a.lamports) == 0) ≡ b
      → same_key q k ≡ false → at (With ks slots) q ≡ there → at (WithNext k share ks slots b) q ≡ there
  other_next k share ks slots q there true e apart rest = rest
  other_next k share ks slots q there false e apart rest = with_one (With ks slots) k (value_of share) q e ∙ (cond-false (same_key q k) (value_of share) (at (With ks slots) q) apart ∙ rest)

  pub with_others : (ks : List Key) (slots : Slots) (q : Key) → has_key q ks ≡ false → at (With ks slots) q ≡ at s q
  with_others [] slots q out = ap (λ t. at t q) with_none
  with_others (k ∷ ks) [] q out = ap (λ t. at t q) with_none
  with_others (k ∷ ks) (None ∷ slots) q out = with_others ks slots q (or_parts (same_key q k) (has_key q ks) out).1
  with_others (k ∷ ks) (Some share ∷ slots) q out =
      let apart = or_parts (same_key q k) (has_key q ks) out in
      other_next k share ks slots q (at s q) ((let a : Account = value_of share in a.lamports) == 0) refl apart.0 (with_others ks slots q apart.1)

  this_next : (k : Key) (share : Shared) (ks : List Key) (slots : Slots) (b : Bool) → ((let a : Account = value_of share in a.lamports) == 0) ≡ b
      → IsSettled (value_of share) → at (With ks slots) k ≡ empty_account → at (WithNext k share ks slots b) k ≡ value_of share
  this_next k share ks slots true e settled none = none ∙ sym (settled (eqb-true _ 0 e))
  this_next k share ks slots false e settled none = with_one (With ks slots) k (value_of share) k e ∙ cond-true (same_key k k) (value_of share) (at (With ks slots) k) (same_key-self k)

  pub with_these : (ks : List Key) (slots : Slots) (n : ℕ) → n < length ks → length slots ≡ length ks → IsDistinct same_key ks
      → ((m : ℕ) → m < length ks → IsSettled (in_slot (account_at slots m))) → ((m : ℕ) → m < length ks → at s (numbered_key ks m) ≡ empty_account)
      → at (With ks slots) (numbered_key ks n) ≡ in_slot (account_at slots n)
  with_these [] slots n l e d settled fresh = absurd (omega (arith, l))
  with_these (k ∷ ks) [] n l e d settled fresh = absurd (omega (arith, e))
  with_these (k ∷ ks) (None ∷ slots) zero l e d settled fresh = with_others ks slots k (has_key-none k ks (IsDistinct-head same_key k ks d)) ∙ fresh 0 (omega arith)
  with_these (k ∷ ks) (None ∷ slots) (suc n) l e d settled fresh =
      with_these ks slots n (omega (arith, l)) (omega (arith, e)) (IsDistinct-tail same_key k ks d) (λ m b. settled (suc m) (omega (arith, b))) (λ m b. fresh (suc m) (omega (arith, b)))
  with_these (k ∷ ks) (Some share ∷ slots) zero l e d settled fresh =
      this_next k share ks slots ((let a : Account = value_of share in a.lamports) == 0) refl (settled 0 (omega arith))
      (with_others ks slots k (has_key-none k ks (IsDistinct-head same_key k ks d)) ∙ fresh 0 (omega arith))
  with_these (k ∷ ks) (Some share ∷ slots) (suc n) l e d settled fresh =
      let q = numbered_key ks n in
      other_next k share ks slots q (in_slot (account_at slots n)) ((let a : Account = value_of share in a.lamports) == 0) refl
      (same_key-sym q k ∙ at_number (λ y. same_key k y ≡ false) ks n (IsDistinct-head same_key k ks d) (omega (arith, l)))
      (with_these ks slots n (omega (arith, l)) (omega (arith, e)) (IsDistinct-tail same_key k ks d) (λ m b. settled (suc m) (omega (arith, b))) (λ m b. fresh (suc m) (omega (arith, b))))

-- one slot more
zip-nil : {X Y : Type 0} (xs : List X) → ◌≡◌ {A = List (X × Y)} (zip xs []) []
zip-nil [] = refl
zip-nil (x ∷ xs) = refl

zip_pushed : (ks : List Key) (done : Slots) (slot : Option Shared) (d : Key) → length done < length ks → zip ks (done ++ slot ∷ []) ≡ zip ks done ++ (get_or ks (length done) d, slot) ∷ []
zip_pushed [] done slot d below = absurd (omega (arith, below))
zip_pushed (k ∷ ks) [] slot d below = ap (λ (l : List (Key × Option Shared)). (k, slot) ∷ l) (zip-nil ks)
zip_pushed (k ∷ ks) (x ∷ done) slot d below = ap (λ (l : List (Key × Option Shared)). (k, x) ∷ l) (zip_pushed ks done slot d (omega (arith, below)))

pub held_first : (ks : List Key) (held : List (Key × Shared)) → held ≡ [] → held ≡ Held ks []
held_first ks held none = none ∙ ap held_in (sym (zip-nil ks))

pub held_more : (ks : List Key) (done : Slots) (slot : Option Shared) (k : Key) (old new : List (Key × Shared))
    (place : ℕ) → place ≡ length done → length done < length ks → k ≡ get_or ks place k → old ≡ Held ks done
    → new ≡ old ++ held_in ((k, slot) ∷ []) → new ≡ Held ks (done ++ slot ∷ [])
held_more ks done slot k old new place is below here so_far pushed =
    pushed ∙ (ap (λ (l : List (Key × Shared)). l ++ held_in ((k, slot) ∷ [])) so_far
    ∙ (ap (λ q. Held ks done ++ held_in ((q, slot) ∷ [])) (here ∙ ap (λ n. get_or ks n k) is)
    ∙ (sym (filter_map-append held_entry (zip ks done) ((get_or ks (length done) k, slot) ∷ [])) ∙ ap held_in (sym (zip_pushed ks done slot k below)))))
