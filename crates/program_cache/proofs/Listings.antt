-- What is kept for keys, and what is found among it.
use Rattle.std.proofs.Common.{◌≡◌, ◌<◌, ℕ, zero, suc, length, get_or, List, [], ◌∷◌, Option, Some, None, Bool, true, false, cond, ◌||◌, refl, sym, ap, subst, ◌∙◌, arith}
use Rattle.std.specs.Prelude.{map as each, unwrap_or, if◌then◌else◌}
use Rattle.std.specs.List.{zip}
use Rattle.std.specs.List.Sorted.{IsStrictlySortedBy}
use Rattle.std.specs.Cmp.{eq_by_cmp_equiv}
use Rattle.std.proofs.lemmas.List.{length-map}
use Rattle.std.proofs.Math.ListN.{get_or-map}
use Rattle.std.proofs.lemmas.Map.Keys.{Less-from_sorted, sorted_tail}
use Rattle.std.specs.Map.{keys_of}
use Rattle.std.specs.Ordering.{eq_by_cmp, is_eq}
use Rattle.std.specs.FinMap as finite
use Rattle.std.specs.FinMap.{find, get-from_entries, get-entries, same_map}
use Rattle.sol_base.specs.declared.key.Key.{Key}
use Rattle.sol_base.specs.Keys.{key_cmp, same_key, has_key}
use Rattle.sol_base.proofs.KeyLaws.{key_cmp_exact, key_cmp_total, same_cmp, same_key-true, same_key-self}
use Rattle.account_store.specs.State.{State}
use Rattle.account_store.proofs.EntryLists.{entries-from_entries}
use Rattle.program_cache.specs.Programs.{Sought, Listing, IsAbsent, sought_in, programs_of, sought}
use Rattle.program_cache.specs.declared.kept.Kept.{Kept}
use Rattle.program_cache.specs.Kept.{kept_as, listing, AreKept}

-- the keys, each with what is found under it
abbrev pairs : State → List Key → List (Key × Sought)
pairs s keys = each (λ key. (key, sought_in s key)) keys

abbrev kept_map : State → List Key → finite.FinMap key_cmp Sought
kept_map s keys = finite.from_entries {R = key_cmp} (pairs s keys)

-- what is found for a key that may be among the keys
abbrev if_among : State → Key → Bool → Option Sought
if_among s q among = if among then Some (sought_in s q) else None

found_pair : (s : State) (k q : Key) (among b : Bool) → same_key q k ≡ b → cond b (Some (sought_in s k)) (if_among s q among) ≡ if_among s q (b || among)
found_pair s k q among true e = ap (λ (key : Key). let o : Option Sought = Some (sought_in s key) in o) (sym (same_key-true q k e))
found_pair s k q among false e = refl

-- what is found under a key
find-pairs : (s : State) (keys : List Key) (q : Key) → find key_cmp q (pairs s keys) ≡ if_among s q (has_key q keys)
find-pairs s [] q = refl
find-pairs s (k ∷ keys) q =
    ap (λ (o : Option Sought). cond (eq_by_cmp key_cmp q k) (Some (sought_in s k)) o) (find-pairs s keys q)
    ∙ ap (λ (b : Bool). cond b (Some (sought_in s k)) (if_among s q (has_key q keys))) (same_cmp q k)
    ∙ found_pair s k q (has_key q keys) (same_key q k) refl

get-kept : (s : State) (keys : List Key) (q : Key) → finite.get (kept_map s keys) q ≡ if_among s q (has_key q keys)
get-kept s keys q = get-from_entries key_cmp_total (pairs s keys) q ∙ find-pairs s keys q

-- what is found among all that is kept
pub sought-programs : (s : State) (keys : List Key) (q : Key) → sought (programs_of s keys) q ≡ unwrap_or (if_among s q (has_key q keys)) IsAbsent
unfolding sought programs_of
sought-programs s keys q = ap (λ (o : Option Sought). unwrap_or o IsAbsent) (sym (get-entries (kept_map s keys) q) ∙ get-kept s keys q)

pub sought-among : (s : State) (keys : List Key) (q : Key) → has_key q keys ≡ true → sought (programs_of s keys) q ≡ sought_in s q
sought-among s keys q h = sought-programs s keys q ∙ ap (λ (b : Bool). unwrap_or (if_among s q b) IsAbsent) h

pub sought-other : (s : State) (keys : List Key) (q : Key) → has_key q keys ≡ false → sought (programs_of s keys) q ≡ IsAbsent
sought-other s keys q h = sought-programs s keys q ∙ ap (λ (b : Bool). unwrap_or (if_among s q b) IsAbsent) h

-- what is kept for lists with the same keys is the same
pub programs-same : (s : State) (some keys : List Key) → ((key : Key) → has_key key some ≡ has_key key keys) → programs_of s some ≡ programs_of s keys
unfolding programs_of
programs-same s some keys same =
    ap finite.entries (same_map key_cmp_total key_cmp_exact (kept_map s some) (kept_map s keys) (λ q. get-kept s some q ∙ ap (λ (b : Bool). if_among s q b) (same q) ∙ sym (get-kept s keys q)))

keys-pairs : (s : State) (keys : List Key) → keys_of (pairs s keys) ≡ keys
keys-pairs s [] = refl
keys-pairs s (k ∷ keys) = ap (λ (ks : List Key). k ∷ ks) (keys-pairs s keys)

-- where the keys ascend, it is what is found under each of them
pub programs-ascend : (s : State) (keys : List Key) → IsStrictlySortedBy key_cmp keys → programs_of s keys ≡ each (λ key. (key, sought_in s key)) keys
unfolding programs_of
programs-ascend s keys up = entries-from_entries key_cmp_total key_cmp_exact (pairs s keys) (subst (IsStrictlySortedBy key_cmp) (sym (keys-pairs s keys)) up)

missing : (keys : List Key) (found : List Sought) (q : Key) → has_key q keys ≡ false → find key_cmp q (zip keys found) ≡ None
missing [] found q none = refl
missing (k ∷ keys) [] q none = refl
missing (k ∷ keys) (f ∷ found) q none = by_test (same_key q k) refl none (missing keys found q)
  where
    by_test : (b : Bool) → same_key q k ≡ b → (b || has_key q keys) ≡ false → (has_key q keys ≡ false → find key_cmp q (zip keys found) ≡ None) → find key_cmp q ((k, f) ∷ zip keys found) ≡ None
    by_test true t n rest = absurd (cc)
    by_test false t n rest = ap (λ (b : Bool). cond b (Some f) (find key_cmp q (zip keys found))) (same_cmp q k ∙ t) ∙ rest n

found : (keys : List Key) (fs : List Sought) (at : ℕ) (d : Key) (e : Sought) → IsStrictlySortedBy key_cmp keys
    → at < length keys → at < length fs → find key_cmp (get_or keys at d) (zip keys fs) ≡ Some (get_or fs at e)
found [] fs at d e up l m = absurd (omega (arith, l))
found (k ∷ keys) [] at d e up l m = absurd (omega (arith, m))
found (k ∷ keys) (f ∷ fs) zero d e up l m = ap (λ (b : Bool). cond b (Some f) (find key_cmp k (zip keys fs))) (same_cmp k k ∙ same_key-self k)
found (k ∷ keys) (f ∷ fs) (suc at) d e up l m =
    ap (λ (b : Bool). cond b (Some f) (find key_cmp (get_or keys at d) (zip keys fs)))
    ((eq_by_cmp_equiv key_cmp_total).symm (get_or keys at d) k
    ∙ ap is_eq (Less-from_sorted key_cmp (k ∷ keys) 0 (suc at) d up (omega arith) l))
    ∙ found keys fs at d e (sorted_tail key_cmp k keys up) (omega (arith, l)) (omega (arith, m))

-- what is kept for keys that ascend
pub listing-programs : (s : State) (keys : List Key) (kept : List Kept) → IsStrictlySortedBy key_cmp keys → each kept_as kept ≡ each (sought_in s) keys → listing keys kept ≡ programs_of s keys
listing-programs s keys kept up e = ap (zip keys) e ∙ beside keys ∙ sym (programs-ascend s keys up)
  where
    beside : (ks : List Key) → zip ks (each (sought_in s) ks) ≡ each (λ key. (key, sought_in s key)) ks
    beside [] = refl
    beside (k ∷ ks) = ap (λ (l : Listing). (k, sought_in s k) ∷ l) (beside ks)

pub are_kept : (s : State) (keys : List Key) (kept : List Kept) → IsStrictlySortedBy key_cmp keys → each kept_as kept ≡ each (sought_in s) keys → AreKept keys kept
are_kept s keys kept up e = record {
  long = sym (length-map kept kept_as) ∙ ap length e ∙ length-map keys (sought_in s);
  ascend = up;
}

-- a key that is none of the keys
pub sought-none : (keys : List Key) (kept : List Kept) (q : Key) → has_key q keys ≡ false → IsAbsent ≡ sought (listing keys kept) q
unfolding sought
sought-none keys kept q none = sym (ap (λ (p : Option Sought). unwrap_or p IsAbsent) (missing keys (each kept_as kept) q none))

-- and one that is
pub sought-found : (keys : List Key) (kept : List Kept) (q : Key) (at : ℕ) (d : Key) (v : Kept)
    → AreKept keys kept → at < length keys → get_or keys at d ≡ q → v ≡ get_or kept at v
    → kept_as v ≡ sought (listing keys kept) q
unfolding sought
sought-found keys kept q at d v are below here is =
    sym (ap (λ (p : Option Sought). unwrap_or p IsAbsent)
    (subst (λ k. find key_cmp k (listing keys kept) ≡ Some (get_or (each kept_as kept) at (kept_as v))) here
    (found keys (each kept_as kept) at d (kept_as v) are.ascend below
    (let e = are.long in let l = length-map kept kept_as in omega (arith, e, l, below)))
    ∙ ap Some (get_or-map kept_as kept at v ∙ ap kept_as (sym is))))
