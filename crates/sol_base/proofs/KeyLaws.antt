-- Equality and order of keys and hashes.
use Rattle.std.proofs.Common.{◌≡◌, ◌≢◌, ℕ, List, Bool, true, false, refl, ap, subst, sym}
use Rattle.std.specs.Bool.{Decides}
use Rattle.std.specs.Ordering.{eq_by_cmp, is_eq}
use Rattle.std.specs.declared.cmp.Ordering.{Ordering}
use Rattle.std.specs.declared.cmp.Ordering.TheVariants.{Less, Equal, Greater}
use Rattle.std.proofs.lemmas.Bool.{both_ways, false_from_ne_true}
use Rattle.std.specs.Cmp.{IsEquivalence, IsTotalOrder}
use Rattle.std.specs.Cmp.Lexicographic.{bytes_decides}
use Rattle.std.proofs.lemmas.Map.Lookups.{CmpEqualImpliesEq, exact_bytes}
use Rattle.std.proofs.lemmas.Cmp.{eq_by_cmp_equiv, on_equiv, on_total, nat_list_eq_equiv, nat_list_cmp_total}
use Rattle.sol_base.specs.declared.key.Key.{Key}
use Rattle.sol_base.specs.declared.key.Hash32.{Hash32}
use Rattle.sol_base.specs.Keys.{same_key, same_hash, key_cmp, hash_cmp}

-- the test of two keys tells exactly whether they are one
pub same_key-Decides : (a b : Key) → Decides (same_key a b) (a ≡ b)
same_key-Decides a b = (λ same. ap (λ (bytes : List ℕ). let key : Key = record { 0 = bytes } in key) ((bytes_decides a.0 b.0).0 same), λ e. (bytes_decides a.0 b.0).1 (ap (λ (key : Key). key.0) e))

pub same_key-true : (a b : Key) → same_key a b ≡ true → a ≡ b
same_key-true a b = (same_key-Decides a b).0

pub same_key-self : (a : Key) → same_key a a ≡ true
same_key-self a = (same_key-Decides a a).1 refl

pub same_key-false : (a b : Key) → a ≢ b → same_key a b ≡ false
same_key-false a b differ = by_test (same_key a b) (same_key-true a b)
  where
    by_test : (t : Bool) → (t ≡ true → a ≡ b) → t ≡ false
    by_test true same = absurd (differ (same refl))
    by_test false same = refl

pub same_key-equiv : IsEquivalence same_key
same_key-equiv = on_equiv (λ (key : Key). key.0) nat_list_eq_equiv

pub same_key-sym : (a b : Key) → same_key a b ≡ same_key b a
same_key-sym a b = by_test (same_key b a) refl
  where
    by_test : (t : Bool) → same_key b a ≡ t → same_key a b ≡ t
    by_test true same = subst (λ (key : Key). same_key key b ≡ true) (same_key-true b a same) (same_key-self b)
    by_test false differ = same_key-false a b (λ one. both_ways (same_key b a) differ (subst (λ (key : Key). same_key b key ≡ true) (sym one) (same_key-self b)))

-- and so does that of two hashes
pub same_hash-Decides : (a b : Hash32) → Decides (same_hash a b) (a ≡ b)
same_hash-Decides a b = (
  λ same. ap (λ (bytes : List ℕ). let hash : Hash32 = record { 0 = bytes } in hash)
      ((bytes_decides a.0 b.0).0 same),
  λ e. (bytes_decides a.0 b.0).1 (ap (λ (hash : Hash32). hash.0) e),
)

-- keys that compare as equal are the same
pub key_cmp_exact : CmpEqualImpliesEq key_cmp
key_cmp_exact a b h = ap (λ (bytes : List ℕ). let key : Key = record { 0 = bytes } in key) (exact_bytes a.0 b.0 h)

pub key_cmp_total : IsTotalOrder key_cmp
key_cmp_total = on_total (λ (key : Key). key.0) nat_list_cmp_total

-- the order and the test of two keys agree on which are one
pub same_cmp : (a b : Key) → eq_by_cmp key_cmp a b ≡ same_key a b
same_cmp a b = by_test (same_key a b) refl
  where
    equal : (o : Ordering) → is_eq o ≡ true → o ≡ Equal
    equal Less e = absurd (cc)
    equal Equal e = refl
    equal Greater e = absurd (cc)

    by_test : (t : Bool) → same_key a b ≡ t → eq_by_cmp key_cmp a b ≡ t
    by_test true same = subst (λ (key : Key). eq_by_cmp key_cmp a key ≡ true) (same_key-true a b same) ((eq_by_cmp_equiv key_cmp_total).refl a)
    by_test false differ = false_from_ne_true (eq_by_cmp key_cmp a b)
        (λ e. both_ways (same_key a b) differ
        (subst (λ (key : Key). same_key a key ≡ true) (key_cmp_exact a b (equal (key_cmp a b) e))
        (same_key-self a)))

pub hash_cmp_exact : CmpEqualImpliesEq hash_cmp
hash_cmp_exact a b h = ap (λ (bytes : List ℕ). let hash : Hash32 = record { 0 = bytes } in hash) (exact_bytes a.0 b.0 h)

pub hash_cmp_total : IsTotalOrder hash_cmp
hash_cmp_total = on_total (λ (hash : Hash32). hash.0) nat_list_cmp_total
