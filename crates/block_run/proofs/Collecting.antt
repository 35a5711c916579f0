-- Keys that are collected.
use Rattle.std.proofs.Common.{◌≡◌, ◌∷◌, [], ◌++◌, ◌≤◌, Bool, true, false, ◌||◌, List, length, refl, sym, ap, subst, ◌∙◌, append_assoc, arith, length-append}
use Rattle.std.proofs.lemmas.List.Folds.{list_any-append}
use Rattle.sol_base.specs.declared.key.Key.{Key}
use Rattle.sol_base.specs.Keys.{same_key, has_key}
use Rattle.sol_base.proofs.KeyLaws.{same_key-true}
use Rattle.block_run.specs.SerialRun.{AreKeysOf}

has_more : (k key : Key) (keys : List Key) → has_key k (keys ++ key ∷ []) ≡ (has_key k keys || (same_key k key || false))
has_more k key keys = list_any-append (λ one. same_key k one) keys (key ∷ [])

-- a key that is there already
pub key_again : (all keys : List Key) (key : Key) → AreKeysOf all keys → has_key key keys ≡ true → AreKeysOf (all ++ key ∷ []) keys
key_again all keys key are there = record {
  same = λ k. are.same k ∙ sym (has_more k key all ∙ by_test k (same_key k key) refl);
  fewer = let long = length-append all (key ∷ []) in let few = are.fewer in omega (arith, long, few);
}
  where
    or_false : (b : Bool) → (b || false) ≡ b
    or_false true = refl
    or_false false = refl

    by_test : (k : Key) (t : Bool) → same_key k key ≡ t → (has_key k all || (same_key k key || false)) ≡ has_key k all
    by_test k false e = ap (λ b. has_key k all || (b || false)) e ∙ or_false (has_key k all)
    by_test k true e =
        let here = sym (are.same k) ∙ subst (λ (q : Key). has_key q keys ≡ true) (sym (same_key-true k key e)) there in
        ap (λ b. b || (same_key k key || false)) here ∙ sym here

-- those of a message stand in three lists
pub in_three : (all a b c keys writable readonly : List Key) → a ≡ keys → b ≡ writable → c ≡ readonly → ((all ++ a) ++ b) ++ c ≡ all ++ ((keys ++ writable) ++ readonly)
in_three all a b c keys writable readonly one two three =
    ap (λ (ks : List Key). ks ++ c) (append_assoc all a b) ∙ append_assoc all (a ++ b) c
    ∙ ap (λ (ks : List Key). all ++ ((ks ++ b) ++ c)) one
    ∙ ap (λ (ks : List Key). all ++ ((keys ++ ks) ++ c)) two
    ∙ ap (λ (ks : List Key). all ++ ((keys ++ writable) ++ ks)) three
