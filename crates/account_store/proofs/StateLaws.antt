-- Laws of states.
use Rattle.std.proofs.Common.{◌≡◌, ◌+◌, ◌-◌, ◌^◌, ◌≤◌, List, [], Option, Some, None, Bool, true, false, cond, ◌⊎◌, inl, inr, lit≤, refl, sym, ap, subst, ◌∙◌, arith}
use Rattle.std.specs.Prelude.{option_map, unwrap_or, nat_eq, length, sum_by}
use Rattle.std.specs.List.{AllByRecursion}
use Rattle.std.specs.List.Sorted.{IsStrictlySortedBy}
use Rattle.std.specs.Ordering.{eq_by_cmp}
use Rattle.std.specs.Map.{lookup, values_of, remove_entry}
use Rattle.std.specs.BTreeMap.{is_at, insert_entry}
use Rattle.std.specs.FinMap as map
use Rattle.std.specs.FinMap.{get-insert, get-remove, get-entries, same_map}
use Rattle.std.proofs.lemmas.Bool.{cases_Bool}
use Rattle.std.proofs.lemmas.Bool.Decides.{nat_tests}
use Rattle.std.proofs.lemmas.Map.Entries.{sum_by-insert_entry, sum_by-remove_entry}
use Rattle.sol_base.specs.declared.key.Key.{Key}
use Rattle.sol_base.specs.declared.account.Account.{Account}
use Rattle.sol_base.specs.Keys.{key_cmp, same_key}
use Rattle.sol_base.specs.Accounts.{empty_account, max_data_len}
use Rattle.sol_base.proofs.KeyLaws.{key_cmp_exact, key_cmp_total, same_cmp}
use Rattle.account_store.specs.State.{State, empty, get, at, remove, put, kept, settled, entries, lamports_of, sum, IsHeld, IsState}
use Rattle.account_store.proofs.EntryLists.{find-lookup, sorted-entries, entries-from_entries, entries-insert_entry, entries-remove_entry, sum_by-values, all-insert_entry, all-remove_entry, all-find}

-- states with the same accounts are one
pub same_state : (s t : State) → ((k : Key) → get s k ≡ get t k) → s ≡ t
same_state s t same = same_map key_cmp_total key_cmp_exact s t same

pub get-put : (s : State) (k : Key) (a : Account) (q : Key) → get (put s k a) q ≡ cond (eq_by_cmp key_cmp q k) (kept a) (get s q)
get-put s k a q = elim (nat_eq a.lamports 0) as (λ b. get (cond b (map.remove s k) (map.insert s k a)) q ≡ cond (eq_by_cmp key_cmp q k) (cond b None (Some a)) (get s q)) [
  | true ↦ get-remove key_cmp_total s k q
  | false ↦ get-insert key_cmp_total s k a q
]

lamports_found : (o : Option Account) → unwrap_or (option_map (λ (a : Account). a.lamports) o) 0 ≡ (unwrap_or o empty_account).lamports
lamports_found None = refl
lamports_found (Some a) = refl

sum_values : (es : List (Key × Account)) → lamports_of es ≡ sum_by (λ (a : Account). a.lamports) (values_of es)
sum_values es = sum_by-values (λ (a : Account). a.lamports) es

found_at : (s : State) (k : Key) → unwrap_or (option_map (λ (a : Account). a.lamports) (lookup (is_at (key_cmp k)) (entries s))) 0 ≡ (at s k).lamports
found_at s k = ap (λ (o : Option Account). unwrap_or (option_map (λ (a : Account). a.lamports) o) 0) (sym (find-lookup key_cmp k (entries s)) ∙ sym (get-entries s k)) ∙ lamports_found (get s k)

-- what is put in comes to the sum, and what it replaces goes
pub sum-insert : (s : State) (k : Key) (a : Account) → sum (map.insert s k a) + (at s k).lamports ≡ sum s + a.lamports
sum-insert s k a =
    let es = entries s in
    let after = insert_entry key_cmp es k a in
    let grown = sum_by-insert_entry (λ (x : Account). x.lamports) key_cmp_total es k a (sorted-entries key_cmp s) in
    let new : sum (map.insert s k a) ≡ sum_by (λ (x : Account). x.lamports) (values_of after) = ap lamports_of (entries-insert_entry key_cmp_total s k a) ∙ sum_values after in
    rw (new, ← found_at s k, sum_values es) grown

-- what is taken out goes from the sum
pub sum-remove : (s : State) (k : Key) → sum (remove s k) + (at s k).lamports ≡ sum s
sum-remove s k =
    let es = entries s in
    let left = remove_entry (is_at (key_cmp k)) es in
    let shrunk = sum_by-remove_entry (λ (x : Account). x.lamports) (is_at (key_cmp k)) es in
    let new : sum (remove s k) ≡ sum_by (λ (x : Account). x.lamports) (values_of left) = ap lamports_of (entries-remove_entry key_cmp_total key_cmp_exact s k) ∙ sum_values left in
    rw (new, ← found_at s k, sum_values es) shrunk

zero_or_more : (a : Account) → ((nat_eq a.lamports 0 ≡ true) × (a.lamports ≡ 0)) ⊎ ((nat_eq a.lamports 0 ≡ false) × (1 ≤ a.lamports))
zero_or_more a = elim (cases_Bool (nat_eq a.lamports 0)) [
  | inl e ↦ inl (e, grind (arith, nat_tests))
  | inr e ↦ inr (e, grind (arith, nat_tests))
]

pub put-zero : (s : State) (k : Key) (a : Account) → a.lamports ≡ 0 → put s k a ≡ remove s k
put-zero s k a zero = rw zero refl

pub put-more : (s : State) (k : Key) (a : Account) → 1 ≤ a.lamports → put s k a ≡ map.insert s k a
put-more s k a more = let e : nat_eq a.lamports 0 ≡ false = grind (arith, nat_tests) in rw e refl

-- the sum after an account is written
pub sum-put : (s : State) (k : Key) (a : Account) → sum (put s k a) + (at s k).lamports ≡ sum s + a.lamports
sum-put s k a = elim (zero_or_more a) [
  | inl z ↦ rw (put-zero s k a z.1) (omega (arith, sum-remove s k, z.1))
  | inr m ↦ ap (λ (t : State). sum t + (at s k).lamports) (put-more s k a m.1) ∙ sum-insert s k a
]

-- so it grows by no more than what is written
pub sum-put-le : (s : State) (k : Key) (a : Account) → sum (put s k a) ≤ sum s + a.lamports
sum-put-le s k a = omega (arith, sum-put s k a)

-- no account has more lamports than all together
pub lamports-at-le : (s : State) (k : Key) → (at s k).lamports ≤ sum s
lamports-at-le s k = omega (arith, sum-remove s k)

pub entries-empty : entries empty ≡ []
unfolding IsStrictlySortedBy
entries-empty = entries-from_entries key_cmp_total key_cmp_exact [] tt

pub IsState-empty : IsState empty
IsState-empty = record {
  held = subst (AllByRecursion (λ e. IsHeld e.1)) (sym entries-empty) tt;
  fits = rw entries-empty (lit≤ tt);
}

pub IsState-insert : (s : State) (k : Key) (a : Account) → IsState s → IsHeld a → sum (map.insert s k a) ≤ 2 ^ 64 - 1 → IsState (map.insert s k a)
IsState-insert s k a is held fits = record {
  held = subst (AllByRecursion (λ e. IsHeld e.1)) (sym (entries-insert_entry key_cmp_total s k a)) (all-insert_entry key_cmp IsHeld (entries s) k a is.held held);
  fits = fits;
}

pub IsState-remove : (s : State) (k : Key) → IsState s → IsState (remove s k)
IsState-remove s k is = record {
  held = subst (AllByRecursion (λ e. IsHeld e.1)) (sym (entries-remove_entry key_cmp_total key_cmp_exact s k)) (all-remove_entry IsHeld (is_at (key_cmp k)) (entries s) is.held);
  fits = omega (arith, sum-remove s k, is.fits);
}

pub IsState-put : (s : State) (k : Key) (a : Account) → IsState s → length a.bytes ≤ max_data_len → sum (put s k a) ≤ 2 ^ 64 - 1 → IsState (put s k a)
IsState-put s k a is short fits = elim (zero_or_more a) [
  | inl z ↦ subst IsState (sym (put-zero s k a z.1)) (IsState-remove s k is)
  | inr m ↦ let e = put-more s k a m.1 in subst IsState (sym e) (IsState-insert s k a is (m.1, short) (subst (λ (t : State). sum t ≤ 2 ^ 64 - 1) e fits))
]

-- an account that is there
pub IsHeld-get : (s : State) (k : Key) (a : Account) → IsState s → get s k ≡ Some a → IsHeld a
IsHeld-get s k a is found = all-find key_cmp IsHeld k (entries s) a is.held (sym (get-entries s k) ∙ found)

-- a key is absent exactly where its account has no lamports
pub get-at : (s : State) (k : Key) → IsState s → get s k ≡ kept (at s k)
get-at s k is = by_case (get s k) refl
  where
    by_case : (o : Option Account) → get s k ≡ o → o ≡ kept (unwrap_or o empty_account)
    by_case None e = refl
    by_case (Some a) e = let more = IsHeld-get s k a is e in let n : nat_eq a.lamports 0 ≡ false = grind (arith, nat_tests, more.0) in rw n refl

-- states that show the same account at each key are one
pub same_at : (s t : State) → IsState s → IsState t → ((k : Key) → at s k ≡ at t k) → s ≡ t
same_at s t is it same = same_state s t (λ k. get-at s k is ∙ ap kept (same k) ∙ sym (get-at t k it))

-- what is found at each key after an account is written, and after one is taken out
pub get-put_key : (s : State) (k : Key) (a : Account) (q : Key) → get (put s k a) q ≡ cond (same_key q k) (kept a) (get s q)
get-put_key s k a q = get-put s k a q ∙ ap (λ b. cond b (kept a) (get s q)) (same_cmp q k)

pub get-remove_key : (s : State) (k q : Key) → get (remove s k) q ≡ cond (same_key q k) None (get s q)
get-remove_key s k q = get-remove key_cmp_total s k q ∙ ap (λ b. cond b None (get s q)) (same_cmp q k)

settled_or : (a : Account) → unwrap_or (kept a) empty_account ≡ settled a
settled_or a = elim (nat_eq a.lamports 0) as (λ b. unwrap_or (cond b None (Some a)) empty_account ≡ cond b empty_account a) [ true ↦ refl | false ↦ refl ]

either : (b : Bool) (x y : Option Account) → unwrap_or (cond b x y) empty_account ≡ cond b (unwrap_or x empty_account) (unwrap_or y empty_account)
either true x y = refl
either false x y = refl

-- and what is at each key
pub at-put : (s : State) (k : Key) (a : Account) (q : Key) → at (put s k a) q ≡ cond (same_key q k) (settled a) (at s q)
at-put s k a q =
    ap (λ (o : Option Account). unwrap_or o empty_account) (get-put_key s k a q) ∙ either (same_key q k) (kept a) (get s q)
    ∙ ap (λ x. cond (same_key q k) x (at s q)) (settled_or a)

pub at-remove : (s : State) (k q : Key) → at (remove s k) q ≡ cond (same_key q k) empty_account (at s q)
at-remove s k q = ap (λ (o : Option Account). unwrap_or o empty_account) (get-remove_key s k q) ∙ either (same_key q k) None (get s q)
