-- What a binary search over ascending hashes answers.
use Rattle.std.proofs.Common.{◌≡◌, ◌≢◌, ℕ, ◌+◌, ◌<◌, Bool, true, false, List, length, inl, inr, refl, sym, ap, subst, ◌∙◌, Result, Ok, Err, is_ok, get_or, arith}
use Rattle.std.specs.declared.cmp.Ordering.TheVariants.{Less, Equal, Greater}
use Rattle.std.specs.Ordering.{ordering_reverse, is_lt}
use Rattle.std.specs.List.{HoldsAt}
use Rattle.std.specs.List.Sorted.{IsBinarySearchResult, IsSearchInRange, IsPartitionPoint}
use Rattle.std.proofs.lemmas.Bool.{cases_lt}
use Rattle.std.proofs.lemmas.Cmp.{tied_itself}
use Rattle.std.proofs.lemmas.List.Folds.{list_any_at, list_any_none}
use Rattle.std.proofs.lemmas.List.Sorted.{searchable_from_sorted}
use Rattle.sol_base.specs.declared.key.Hash32.{Hash32}
use Rattle.sol_base.specs.Keys.{hash_cmp, same_hash}
use Rattle.sol_base.proofs.KeyLaws.{same_hash-Decides, hash_cmp_exact, hash_cmp_total}
use Rattle.status_cache.specs.Recent.{Ascends, has_hash}

same_when_equal : (a b : Hash32) → hash_cmp a b ≡ Equal → same_hash a b ≡ true
same_when_equal a b equal = (same_hash-Decides a b).1 (hash_cmp_exact a b equal)

equal_when_same : (a b : Hash32) → same_hash a b ≡ true → hash_cmp a b ≡ Equal
equal_when_same a b same = subst (λ (hash : Hash32). hash_cmp a hash ≡ Equal) ((same_hash-Decides a b).0 same) (tied_itself hash_cmp_total a)

differ : (a b : Hash32) (answer : Bool) → same_hash a b ≡ answer → hash_cmp a b ≢ Equal → answer ≡ false
differ a b true same apart = absurd (apart (equal_when_same a b same))
differ a b false same apart = refl

found : (hashes : List Hash32) (hash : Hash32) (i : ℕ) → i < length hashes → HoldsAt (λ one. hash_cmp one hash ≡ Equal) hashes i → has_hash hashes hash ≡ true
found hashes hash i within here = list_any_at (λ one. same_hash one hash) hashes i hash within (same_when_equal _ hash (here hash))

-- a hash that is below or above another is not the same
below_differs : (a b : Hash32) → hash_cmp a b ≡ Less → same_hash a b ≡ false
below_differs a b below = differ a b (same_hash a b) refl (λ equal. cc)

above_differs : (a b : Hash32) → hash_cmp a b ≡ Greater → same_hash a b ≡ false
above_differs a b above = differ a b (same_hash a b) refl (λ equal. cc)

missed : (hashes : List Hash32) (hash : Hash32) (i : ℕ) → IsPartitionPoint (λ one. hash_cmp one hash ≡ Less) (λ one. hash_cmp one hash ≡ Greater) hashes i → has_hash hashes hash ≡ false
missed hashes hash i parts = list_any_none (λ one. same_hash one hash) hashes
    (λ k d within. elim (cases_lt k i) [
      | inl early ↦ below_differs _ hash (parts.0 k d (omega arith) early)
      | inr late ↦ above_differs _ hash
          (parts.1 k d late within)
    ])

-- the search finds a hash exactly where it is there
pub search_tells : (hashes : List Hash32) (hash : Hash32) → Ascends hashes → (r : Result ℕ ℕ)
    → IsSearchInRange r (length hashes) → IsBinarySearchResult (λ one. hash_cmp one hash) hashes r
    → is_ok r ≡ has_hash hashes hash
search_tells hashes hash ascends (Ok i) within here = sym (found hashes hash i within here)
search_tells hashes hash ascends (Err i) within parts =
    sym (missed hashes hash i (parts (searchable_from_sorted hash_cmp_total (λ (one : Hash32). one) hashes hash (λ k d low high.
    ap is_lt (hash_cmp_total.antisymm (get_or hashes (k + 1) d) (get_or hashes k d) ∙ ap ordering_reverse (ascends k (k + 1) d (omega arith) high))))))
