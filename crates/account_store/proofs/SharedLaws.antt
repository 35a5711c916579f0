-- An ordered map of shared accounts as a state.
use Rattle.std.proofs.Common.{◌≡◌, ◌+◌, ◌-◌, ◌^◌, ◌≤◌, ℕ, suc, List, [], ◌∷◌, Option, Some, None, Bool, true, false, cond, refl, sym, ap, subst, ◌∙◌, Bor, arith}
use Rattle.std.specs.Prelude.{option_map, unwrap_or, length}
use Rattle.std.specs.List.Sorted.{IsStrictlySortedBy}
use Rattle.std.specs.Option.{option_copied}
use Rattle.std.specs.Arc.{arc_value}
use Rattle.std.specs.Map.{lookup, keys_of, remove_entry}
use Rattle.std.specs.BTreeMap.{is_at, insert_entry}
use Rattle.std.specs.Ordering.{eq_by_cmp, match_ordering}
use Rattle.std.specs.declared.cmp.Ordering.TheVariants.{Less, Equal, Greater}
use Rattle.std.specs.FinMap as map
use Rattle.std.specs.FinMap.{put, from_entries, get-from_entries, get-insert, same_map, same_entries_map, len-entries}
use Rattle.std.specs.FinMap.Entries.{find-put}
use Rattle.sol_base.specs.declared.key.Key.{Key}
use Rattle.sol_base.specs.declared.account.Account.{Account}
use Rattle.sol_base.specs.Keys.{key_cmp}
use Rattle.sol_base.specs.Accounts.{empty_account}
use Rattle.sol_base.proofs.KeyLaws.{key_cmp_exact, key_cmp_total}
use Rattle.account_store.specs.State.{State, get, at, put as write, remove, len, entries, sum, IsHeld, IsState}
use Rattle.account_store.specs.Shared.{Shared, seen, state_seen, shared_lamports, IsKept}
use Rattle.account_store.proofs.StateLaws.{put-more, entries-empty, sum-insert, sum-remove, lamports-at-le, IsState-empty, IsState-insert, IsState-remove}
use Rattle.account_store.proofs.EntryLists.{find-lookup, put-insert_entry, entries-from_entries, sorted-remove_entry, entries-remove_entry}

pub keys-seen : (es : List (Key × Shared)) → keys_of (seen es) ≡ keys_of es
keys-seen [] = refl
keys-seen (e ∷ es) = ap (λ (ks : List Key). e.0 ∷ ks) (keys-seen es)

abbrev Ascend : List (Key × Shared) → Type 0
Ascend es = IsStrictlySortedBy key_cmp (keys_of es)

ascend-seen : (es : List (Key × Shared)) → Ascend es → IsStrictlySortedBy key_cmp (keys_of (seen es))
ascend-seen es h = subst (IsStrictlySortedBy key_cmp) (sym (keys-seen es)) h

-- the entries of the state are those of the map
pub entries-state_seen : (es : List (Key × Shared)) → Ascend es → entries (state_seen es) ≡ seen es
entries-state_seen es h = entries-from_entries key_cmp_total key_cmp_exact (seen es) (ascend-seen es h)

pub walked : (es walk : List (Key × Shared)) (s : State) → walk ≡ es → Ascend es → state_seen es ≡ s → seen walk ≡ entries s
walked es walk s is h e = ap seen is ∙ sym (entries-state_seen es h) ∙ ap (λ (s : State). entries s) e

pub seen-insert_entry : (es : List (Key × Shared)) (k : Key) (v : Shared) → seen (insert_entry key_cmp es k v) ≡ insert_entry key_cmp (seen es) k (arc_value v)
seen-insert_entry [] k v = refl
seen-insert_entry (e ∷ es) k v = elim (key_cmp k e.0) as
    (λ o. seen (match_ordering o ((k, v) ∷ e ∷ es) ((e.0, v) ∷ es) (e ∷ insert_entry key_cmp es k v))
    ≡ match_ordering o ((k, arc_value v) ∷ seen (e ∷ es)) ((e.0, arc_value v) ∷ seen es)
    ((e.0, arc_value e.1) ∷ insert_entry key_cmp (seen es) k (arc_value v))) [
      | Less ↦ refl
      | Equal ↦ refl
      | Greater ↦ ap (λ (l : List (Key × Account)). (e.0, arc_value e.1) ∷ l) (seen-insert_entry es k v)
    ]

seen-remove_entry : (es : List (Key × Shared)) (test : Key → Bool) → seen (remove_entry test es) ≡ remove_entry test (seen es)
seen-remove_entry [] test = refl
seen-remove_entry (e ∷ es) test = elim (test e.0) as (λ b. seen (cond b es (e ∷ remove_entry test es)) ≡ cond b (seen es) ((e.0, arc_value e.1) ∷ remove_entry test (seen es))) [
  | true ↦ refl
  | false ↦ ap (λ (l : List (Key × Account)). (e.0, arc_value e.1) ∷ l) (seen-remove_entry es test)
]

found : (o : Option Shared) (b : Bool) (v : Shared) → option_map arc_value (cond b (Some v) o) ≡ cond b (Some (arc_value v)) (option_map arc_value o)
found o true v = refl
found o false v = refl

lookup-seen : (es : List (Key × Shared)) (test : Key → Bool) → lookup test (seen es) ≡ option_map arc_value (lookup test es)
lookup-seen [] test = refl
lookup-seen (e ∷ es) test = ap (cond (test e.0) (Some (arc_value e.1))) (lookup-seen es test) ∙ sym (found (lookup test es) (test e.0) e.1)

-- what is found in the state
pub get-state_seen : (es : List (Key × Shared)) (k : Key) → get (state_seen es) k ≡ option_map arc_value (lookup (is_at (key_cmp k)) es)
get-state_seen es k = get-from_entries key_cmp_total (seen es) k ∙ find-lookup key_cmp k (seen es) ∙ lookup-seen es (is_at (key_cmp k))

-- one more entry, or another account at a key
pub state_seen-insert_entry : (es : List (Key × Shared)) (k : Key) (v : Shared) → state_seen (insert_entry key_cmp es k v) ≡ map.insert (state_seen es) k (arc_value v)
state_seen-insert_entry es k v =
    let account : Account = arc_value v in
    let same : seen (insert_entry key_cmp es k v) ≡ put key_cmp k account (seen es) = seen-insert_entry es k v ∙ sym (put-insert_entry key_cmp k account (seen es)) in
    ap (λ (l : List (Key × Account)). from_entries {R = key_cmp} l) same
    ∙ same_map key_cmp_total key_cmp_exact _ _ (λ q.
    get-from_entries key_cmp_total (put key_cmp k account (seen es)) q ∙ find-put key_cmp key_cmp_total q k account (seen es)
    ∙ ap (cond (eq_by_cmp key_cmp q k) (Some account)) (sym (get-from_entries key_cmp_total (seen es) q))
    ∙ sym (get-insert key_cmp_total (state_seen es) k account q))

-- one entry less
pub state_seen-remove_entry : (es : List (Key × Shared)) (k : Key) → Ascend es → state_seen (remove_entry (is_at (key_cmp k)) es) ≡ remove (state_seen es) k
state_seen-remove_entry es k h =
    let test = is_at (key_cmp k) in
    same_entries_map _ _ (
    entries-state_seen (remove_entry test es) (sorted-remove_entry key_cmp_total test es h)
    ∙ seen-remove_entry es test ∙ ap (remove_entry test) (sym (entries-state_seen es h))
    ∙ sym (entries-remove_entry key_cmp_total key_cmp_exact (state_seen es) k))

pub length-seen : (es : List (Key × Shared)) → length (seen es) ≡ length es
length-seen [] = refl
length-seen (e ∷ es) = ap suc (length-seen es)

-- the number of keys
pub len-state_seen : (es : List (Key × Shared)) → Ascend es → len (state_seen es) ≡ length es
len-state_seen es h = len-entries (state_seen es) ∙ ap length (entries-state_seen es h) ∙ length-seen es

-- what a reference of the map points to
pub option_map-copied : (r : Option (Bor Shared)) (o : Option Shared) → option_copied r ≡ o → option_map (λ (b : Bor Shared). arc_value b.now) r ≡ option_map arc_value o
option_map-copied None o e = ap (option_map arc_value) e
option_map-copied (Some b) o e = ap (option_map arc_value) e

-- the lamports of what is found
pub shared_lamports-lookup : (es : List (Key × Shared)) (k : Key) → shared_lamports (lookup (is_at (key_cmp k)) es) ≡ (at (state_seen es) k).lamports
shared_lamports-lookup es k = seen_lamports (lookup (is_at (key_cmp k)) es) ∙ ap (λ (o : Option Account). (unwrap_or o empty_account).lamports) (sym (get-state_seen es k))
  where
    seen_lamports : (o : Option Shared) → shared_lamports o ≡ (unwrap_or (option_map arc_value o) empty_account).lamports
    seen_lamports None = refl
    seen_lamports (Some v) = refl

pub IsKept-empty : (es : List (Key × Shared)) → es ≡ [] → IsKept es 0
unfolding IsStrictlySortedBy
IsKept-empty es e = subst (λ (l : List (Key × Shared)). IsKept l 0) (sym e) (record { ascends = tt; counted = rw entries-empty refl; is_state = IsState-empty })

sum_grown : (n total was here before after lamports : ℕ) → n ≡ total - was + lamports → was ≡ here → total ≡ before → after + here ≡ before + lamports → here ≤ before → n ≡ after
sum_grown n total was here before after lamports e w t grown least = omega arith

sum_shrunk : (n total was here before after : ℕ) → n ≡ total - was → was ≡ here → total ≡ before → after + here ≡ before → n ≡ after
sum_shrunk n total was here before after e w t shrunk = omega arith

-- after an account was put in
pub IsKept-insert : (es fs : List (Key × Shared)) (total n : ℕ) (k : Key) (v : Shared) → IsKept es total
    → fs ≡ insert_entry key_cmp es k v → Ascend fs → IsHeld (arc_value v)
    → sum (map.insert (state_seen es) k (arc_value v)) ≤ 2 ^ 64 - 1
    → (let account : Account = arc_value v in n ≡ total - shared_lamports (lookup (is_at (key_cmp k)) es) + account.lamports) → IsKept fs n
IsKept-insert es fs total n k v is same ascends held fits e =
    let account : Account = arc_value v in
    let s = state_seen es in
    let after : state_seen fs ≡ map.insert s k account = ap state_seen same ∙ state_seen-insert_entry es k v in
    let all = sum_grown n total _ (at s k).lamports (sum s) (sum (map.insert s k account)) account.lamports e (shared_lamports-lookup es k) is.counted (sum-insert s k account) (lamports-at-le s k) in
    record {
      ascends = ascends;
      counted = all ∙ ap sum (sym after);
      is_state = subst IsState (sym after) (IsState-insert s k account is.is_state held fits);
    }

-- after an account was taken out
pub IsKept-remove : (es fs : List (Key × Shared)) (total n : ℕ) (k : Key) → IsKept es total
    → fs ≡ remove_entry (is_at (key_cmp k)) es → Ascend fs
    → n ≡ total - shared_lamports (lookup (is_at (key_cmp k)) es) → IsKept fs n
IsKept-remove es fs total n k is same ascends e =
    let s = state_seen es in
    let after : state_seen fs ≡ remove s k = ap state_seen same ∙ state_seen-remove_entry es k is.ascends in
    let all = sum_shrunk n total _ (at s k).lamports (sum s) (sum (remove s k)) e (shared_lamports-lookup es k) is.counted (sum-remove s k) in
    record {
      ascends = ascends;
      counted = all ∙ ap sum (sym after);
      is_state = subst IsState (sym after) (IsState-remove s k is.is_state);
    }

-- what is there has no more than all
pub shared_lamports-le : (es : List (Key × Shared)) (total : ℕ) (k : Key) → IsKept es total → shared_lamports (lookup (is_at (key_cmp k)) es) ≤ total
shared_lamports-le es total k is = rw (shared_lamports-lookup es k, is.counted) (lamports-at-le (state_seen es) k)

-- the sum is known for what is put in
pub sum-put_in : (es : List (Key × Shared)) (s : State) (k : Key) (a : Account) → state_seen es ≡ s
    → 1 ≤ a.lamports → sum (write s k a) ≤ 2 ^ 64 - 1 → sum (map.insert (state_seen es) k a) ≤ 2 ^ 64 - 1
sum-put_in es s k a same more fits = subst (λ (t : State). sum (map.insert t k a) ≤ 2 ^ 64 - 1) (sym same) (subst (λ (t : State). sum t ≤ 2 ^ 64 - 1) (put-more s k a more) fits)

-- the new sum fits its number
pub total-put_in : (es : List (Key × Shared)) (total : ℕ) (k : Key) (a : Account) → IsKept es total
    → sum (map.insert (state_seen es) k a) ≤ 2 ^ 64 - 1
    → total - shared_lamports (lookup (is_at (key_cmp k)) es) + a.lamports ≤ 2 ^ 64 - 1
total-put_in es total k a is fits =
    let s = state_seen es in
    let e = sum_grown _ total _ (at s k).lamports (sum s) (sum (map.insert s k a)) a.lamports refl (shared_lamports-lookup es k) is.counted (sum-insert s k a) (lamports-at-le s k) in
    subst (λ n. n ≤ 2 ^ 64 - 1) (sym e) fits

pub has_lamports : (seen_account account : Account) → seen_account ≡ account → (seen_account.lamports ≡ 0 → ⊥) → 1 ≤ account.lamports
has_lamports a b same some = subst (λ (x : Account). 1 ≤ x.lamports) same (omega arith)
