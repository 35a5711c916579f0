-- Hashes that are looked for, and those that are found.
use Rattle.std.proofs.Common.{◌≡◌, ◌⊎◌, ℕ, ◌+◌, ◌<◌, Bool, true, false, ◌||◌, ◌&&◌, cond, List, length, take, get_or, set, inl, inr, refl, sym, ap, subst, ◌∙◌}
use Rattle.std.specs.BTreeMap.{is_at}
use Rattle.std.specs.BTreeSet.{BTreeSet, contains}
use Rattle.std.specs.Cmp.{Equal-is}
use Rattle.std.proofs.lemmas.Bool.{cases_eq, false_from_ne_true, both_ways}
use Rattle.std.proofs.lemmas.Cmp.{eq_by_cmp_equiv}
use Rattle.std.proofs.lemmas.List.{get_or-set_same, get_or-set_other, length-set}
use Rattle.std.proofs.lemmas.List.Folds.{list_any_more}
use Rattle.std.proofs.Math.Bool.{or-false}
use Rattle.sol_base.specs.declared.key.Hash32.{Hash32}
use Rattle.sol_base.specs.Keys.{hash_cmp, same_hash}
use Rattle.sol_base.proofs.KeyLaws.{hash_cmp_exact, hash_cmp_total, same_hash-Decides}
use Rattle.status_cache.specs.declared.among.TheConstants.{PREFIXES}
use Rattle.status_cache.specs.Recent.{has_hash, has_name}
use Rattle.status_cache.specs.Sought.{IsSought, prefix_of}

-- ---- sets of hashes
-- the order and the test of two hashes agree on which are one
pub same_name : (name other : Hash32) → is_at (hash_cmp name) other ≡ same_hash name other
same_name name other = by_test (same_hash name other) refl
  where
    by_test : (t : Bool) → same_hash name other ≡ t → is_at (hash_cmp name) other ≡ t
    by_test true same = subst (λ (hash : Hash32). is_at (hash_cmp name) hash ≡ true) ((same_hash-Decides name other).0 same) ((eq_by_cmp_equiv hash_cmp_total).refl name)
    by_test false differ = false_from_ne_true (is_at (hash_cmp name) other)
        (λ e. both_ways (same_hash name other) differ
        ((same_hash-Decides name other).1 (hash_cmp_exact name other ((Equal-is (hash_cmp name other)).0 e))))

-- a name more
pub name_added : (old new : BTreeSet Hash32) (name : Hash32)
    → ((q : Hash32) → contains hash_cmp new q ≡ cond (is_at (hash_cmp name) q) true (contains hash_cmp old q))
    → (q : Hash32) → has_name new q ≡ (has_name old q || same_hash name q)
name_added old new name puts q = puts q ∙ go (is_at (hash_cmp name) q) (same_hash name q) (same_name name q) (contains hash_cmp old q)
  where
    go : (a b : Bool) → a ≡ b → (o : Bool) → cond a true o ≡ (o || b)
    go true true e true = refl
    go true true e false = refl
    go true false e o = absurd (cc)
    go false true e o = absurd (cc)
    go false false e o = sym (or-false o)

-- ---- prefixes
still_marked : (prefixes : List Bool) (i j : ℕ) → i < length prefixes → get_or prefixes j false ≡ true → get_or (set prefixes i true) j false ≡ true
still_marked prefixes i j within e =
    elim (cases_eq j i) [
      | inl same ↦ subst (λ n. get_or (set prefixes i true) n false ≡ true) (sym same) (get_or-set_same prefixes i true false within)
      | inr apart ↦ get_or-set_other prefixes i j true false apart ∙ e
    ]

-- no hash, and a place for each prefix
pub none_sought : (hashes : BTreeSet Hash32) (prefixes : List Bool) → ((hash : Hash32) → has_name hashes hash ≡ false) → length prefixes ≡ PREFIXES → IsSought hashes prefixes
none_sought hashes prefixes none long = record { long = long; marked = λ hash e. absurd (both_ways (has_name hashes hash) (none hash) e) }

either : (a b : Bool) → (a || b) ≡ true → (a ≡ true) ⊎ (b ≡ true)
either true b e = inl refl
either false b e = inr e

-- a hash more, whose prefix is marked
pub sought_more : (old new : BTreeSet Hash32) (prefixes : List Bool) (name : Hash32) → IsSought old prefixes
    → prefix_of name < PREFIXES → ((q : Hash32) → has_name new q ≡ (has_name old q || same_hash name q))
    → IsSought new (set prefixes (prefix_of name) true)
sought_more old new prefixes name known within more = record {
  long = length-set prefixes (prefix_of name) true ∙ known.long;
  marked = λ hash e. by_parts hash (either (has_name old hash) (same_hash name hash) (sym (more hash) ∙ e));
}
  where
    below : prefix_of name < length prefixes
    below = subst (λ n. prefix_of name < n) (sym known.long) within

    by_parts : (hash : Hash32) → (has_name old hash ≡ true) ⊎ (same_hash name hash ≡ true) → get_or (set prefixes (prefix_of name) true) (prefix_of hash) false ≡ true
    by_parts hash (inl there) = still_marked prefixes (prefix_of name) (prefix_of hash) below (known.marked hash there)
    by_parts hash (inr same) =
        subst (λ (h : Hash32). get_or (set prefixes (prefix_of name) true) (prefix_of h) false ≡ true) ((same_hash-Decides name hash).0 same)
        (get_or-set_same prefixes (prefix_of name) true false below)

-- what a look answers
pub told : (hashes : BTreeSet Hash32) (prefixes : List Bool) (hash : Hash32) (b : Bool)
    → IsSought hashes prefixes → get_or prefixes (prefix_of hash) false ≡ b
    → (b && has_name hashes hash) ≡ has_name hashes hash
told hashes prefixes hash true known e = refl
told hashes prefixes hash false known e = go (has_name hashes hash) refl
  where
    go : (t : Bool) → has_name hashes hash ≡ t → false ≡ has_name hashes hash
    go true there = absurd (both_ways (get_or prefixes (prefix_of hash) false) e (known.marked hash there))
    go false gone = sym gone

-- ---- walks
-- hashes of a list that pass a test that does not tell one hash from the same, one more looked at
pub found_more : (test : Hash32 → Bool) (before old new : Hash32 → Bool) (hashes : List Hash32) (i : ℕ) (d : Hash32) → i < length hashes
    → ((q : Hash32) → old q ≡ (before q || (test q && has_hash (take i hashes) q)))
    → ((q : Hash32) → new q ≡ (old q || (test (get_or hashes i d) && same_hash (get_or hashes i d) q)))
    → (q : Hash32) → new q ≡ (before q || (test q && has_hash (take (i + 1) hashes) q))
found_more test before old new hashes i d within so_far added q =
    added q ∙ ap (λ o. o || (test (get_or hashes i d) && same_hash (get_or hashes i d) q)) (so_far q)
    ∙ parts (before q) (test q) (has_hash (take i hashes) q) (test (get_or hashes i d)) (same_hash (get_or hashes i d) q) (λ same. ap test ((same_hash-Decides (get_or hashes i d) q).0 same))
    ∙ ap (λ a. before q || (test q && a)) (sym (list_any_more (λ one. same_hash one q) hashes i d within))
  where
    parts : (b t a u s : Bool) → (s ≡ true → u ≡ t) → ((b || (t && a)) || (u && s)) ≡ (b || (t && (a || s)))
    parts true t a u s e = refl
    parts false true true u s e = refl
    parts false true false u true e = ap (λ x. x && true) (e refl)
    parts false true false u false e = go u
      where
        go : (u : Bool) → (u && false) ≡ false
        go true = refl
        go false = refl
    parts false false a u true e = ap (λ x. x && true) (e refl)
    parts false false a u false e = go u
      where
        go : (u : Bool) → (u && false) ≡ false
        go true = refl
        go false = refl
