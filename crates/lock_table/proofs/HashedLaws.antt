-- What a set of hashed keys says of its keys.
use Rattle.std.proofs.Common.{◌≡◌, ◌+◌, ◌||◌, Bool, true, false, not, if◌then◌else◌, cond, List, [], ◌∷◌, ◌++◌, Some, None, refl, sym, ◌∙◌, ap, ap₂}
use Rattle.std.specs.List.{IsDistinct, AllByRecursion, list_any, position, position_or_len}
use Rattle.std.proofs.lemmas.List.{length-map, map-append}
use Rattle.std.specs.Prelude.{nat_lt, OnErr, Ok, Err}
use Rattle.std.specs.declared.result.Result.{Result}
use Rattle.sol_base.specs.declared.key.Key.{Key}
use Rattle.bank_law.specs.Job.{same_key, has_key}
use Rattle.bank_law.proofs.Keys.{same_key-self}
use Rattle.indexmap.specs.IndexSet.{insert_key}
use Rattle.lock_table.specs.declared.hashed.HashedKey.{HashedKey}
use Rattle.lock_table.specs.Numbers.{number_of, with_key}
use Rattle.lock_table.specs.Tables.{keys_in}
use Rattle.lock_table.proofs.Places.{no_place, place_below, position-none, position-some, position_push-here}
use Rattle.lock_table.proofs.Numbering.{no_key}

abbrev pub same_hashed : HashedKey → HashedKey → Bool
same_hashed a b = same_key a.0 b.0

pub has_hashed : (q : HashedKey) (ks : List HashedKey) → list_any (same_hashed q) ks ≡ has_key q.0 (keys_in ks)
has_hashed q [] = refl
has_hashed q (k ∷ ks) = ap (λ b. same_key q.0 k.0 || b) (has_hashed q ks)

place_in : (q : HashedKey) (ks : List HashedKey) → position_or_len (same_hashed q) ks ≡ position_or_len (λ k. same_key q.0 k) (keys_in ks)
place_in q [] = refl
place_in q (k ∷ ks) = ap (λ n. cond (not (same_key q.0 k.0)) (1 + n) 0) (place_in q ks)

pub number_in : (q : HashedKey) (ks : List HashedKey) → position (same_hashed q) ks ≡ number_of (keys_in ks) q.0
number_in q ks =
    ap₂ (λ n m. cond (nat_lt n m) (Some n) None) (place_in q ks) (sym (length-map ks (λ (k : HashedKey). k.0)))

-- distinct keys are distinct where they are hashed, and the other way round
pub distinct_in : (ks : List HashedKey) → IsDistinct same_hashed ks → IsDistinct same_key (keys_in ks)
unfolding IsDistinct
distinct_in [] d = tt
distinct_in (k ∷ ks) d = (apart ks d.0, distinct_in ks d.1)
  where
    apart : (xs : List HashedKey) → AllByRecursion (λ y. same_hashed k y ≡ false) xs → AllByRecursion (λ y. same_key k.0 y ≡ false) (keys_in xs)
    apart [] h = tt
    apart (x ∷ xs) h = (h.0, apart xs h.1)

-- the keys once one is put in
pub keys_put : (ks : List HashedKey) (q : HashedKey) → keys_in (insert_key same_hashed ks q) ≡ with_key (keys_in ks) q.0
keys_put ks q = by_test (has_key q.0 (keys_in ks)) (has_hashed q ks)
  where
    by_test : (b : Bool) → list_any (same_hashed q) ks ≡ b → keys_in (if list_any (same_hashed q) ks then ks else ks ++ q ∷ []) ≡ (if b then keys_in ks else keys_in ks ++ q.0 ∷ [])
    by_test true e = ap (λ b. keys_in (if b then ks else ks ++ q ∷ [])) e
    by_test false e = ap (λ b. keys_in (if b then ks else ks ++ q ∷ [])) e ∙ map-append (λ (k : HashedKey). k.0) ks (q ∷ [])

-- and its number among them
pub number_put : (ks : List HashedKey) (q : HashedKey) → number_of (with_key (keys_in ks) q.0) q.0 ≡ Some (position_or_len (same_hashed q) ks)
number_put ks q = number_once (keys_in ks) q.0 ∙ ap Some (sym (place_in q ks))
  where
    number_once : (keys : List Key) (key : Key) → number_of (with_key keys key) key ≡ Some (position_or_len (λ k. same_key key k) keys)
    number_once keys key = by_test (has_key key keys) refl
      where
        by_test : (b : Bool) → has_key key keys ≡ b → number_of (if b then keys else keys ++ key ∷ []) key ≡ Some (position_or_len (λ k. same_key key k) keys)
        by_test true e = position-some (λ k. same_key key k) keys (place_below (λ k. same_key key k) keys e)
        by_test false e = position_push-here (λ k. same_key key k) keys key e (same_key-self key) ∙ ap Some (sym (no_place (λ k. same_key key k) keys no_key e))

-- what holds anyway holds where there is an error
pub on_err : {T E P : Type 0} (r : Result T E) → P → OnErr r P
on_err (Ok v) p = tt
on_err (Err e) p = p

pub absent_in : (ks : List HashedKey) (q : HashedKey) → list_any (same_hashed q) ks ≡ false → number_of (keys_in ks) q.0 ≡ None
absent_in ks q e = position-none (λ k. same_key q.0 k) (keys_in ks) no_key (sym (has_hashed q ks) ∙ e)
