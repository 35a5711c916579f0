-- What is granted, account by account.
use Rattle.std.proofs.Common.{◌≡◌, ℕ, ◌+◌, ◌<◌, ◌≤◌, Bool, true, false, List, [], ◌∷◌, ◌++◌, length, map, take, drop, get_or, Option, Some, None, refl, sym, ap, ◌∙◌}
use Rattle.std.specs.Prelude.{unwrap_or}
use Rattle.std.specs.List.{position_from, zip}
use Rattle.std.proofs.lemmas.List.{drop_more, drop_all, map_more}
use Rattle.sol_base.specs.declared.key.Key.{Key}
use Rattle.sol_base.specs.declared.lock.Meta.{Meta}
use Rattle.cpi_calls.specs.declared.request.KeyMeta.{KeyMeta}
use Rattle.cpi_calls.specs.Rights.{exceeds, exceeds_with, is_missing, meta_of, place_of}

-- the test fails at a place
position-more : {X : Type 0} (test : X → Bool) (xs : List X) (i : ℕ) (d : X) → i < length xs
    → test (get_or xs i d) ≡ false
    → position_from test i (drop i xs) ≡ position_from test (i + 1) (drop (i + 1) xs)
position-more test xs i d below h = rw (drop_more xs i d below, h) refl

-- the test passes at a place
position-found : {X : Type 0} (test : X → Bool) (xs : List X) (i : ℕ) (d : X) → i < length xs → test (get_or xs i d) ≡ true → position_from test i (drop i xs) ≡ Some i
position-found test xs i d below h = rw (drop_more xs i d below, h) refl

-- the test passed nowhere
pub position-none : {X : Type 0} (test : X → Bool) (xs : List X) (i : ℕ) → length xs ≤ i → position_from test i (drop i xs) ≡ None
position-none test xs i past = rw (drop_all i xs past) refl

-- a search in two lists side by side
pub pair-more : {X Y : Type 0} (test : X × Y → Bool) (xs : List X) (ys : List Y) (i : ℕ) (d : X) (e : Y) → i < length xs → i < length ys → test (get_or xs i d, get_or ys i e) ≡ false
    → position_from test i (zip (drop i xs) (drop i ys)) ≡ position_from test (i + 1) (zip (drop (i + 1) xs) (drop (i + 1) ys))
pair-more test xs ys i d e one other h = rw (drop_more xs i d one, drop_more ys i e other, h) refl

pub pair-found : {X Y : Type 0} (test : X × Y → Bool) (xs : List X) (ys : List Y) (i : ℕ) (d : X) (e : Y) → i < length xs → i < length ys → test (get_or xs i d, get_or ys i e) ≡ true
    → position_from test i (zip (drop i xs) (drop i ys)) ≡ Some i
pair-found test xs ys i d e one other h = rw (drop_more xs i d one, drop_more ys i e other, h) refl

pub pair-none : {X Y : Type 0} (test : X × Y → Bool) (xs : List X) (ys : List Y) (i : ℕ) → length xs ≤ i → position_from test i (zip (drop i xs) (drop i ys)) ≡ None
pair-none test xs ys i past = rw (drop_all i xs past) refl

mapped : {X Y : Type 0} (f : X → Y) (one : X → Bool) (both : X × Y → Bool) → ((x : X) → both (x, f x) ≡ one x)
    → (i : ℕ) (xs : List X) → position_from both i (zip xs (map f xs)) ≡ position_from one i xs
mapped f one both same i [] = refl
mapped f one both same i (x ∷ xs) = rw (same x, mapped f one both same (i + 1) xs) refl

-- what exceeds by the metas that were found exceeds
pub exceeds-found : (keys signers : List Key) (caller : List Meta) (asked : List KeyMeta)
    → position_from (exceeds_with signers caller) 0 (zip asked (map (meta_of keys caller) asked))
    ≡ position_from (exceeds keys signers caller) 0 asked
exceeds-found keys signers caller asked = mapped (meta_of keys caller) (exceeds keys signers caller) (exceeds_with signers caller) (λ x. refl) 0 asked

-- one account more is found
pub found-more : (keys : List Key) (caller : List Meta) (asked : List KeyMeta) (metas : List Meta) (i : ℕ)
    (d : KeyMeta) (index : ℕ) → i < length asked → metas ≡ map (meta_of keys caller) (take i asked)
    → Some index ≡ (let a : KeyMeta = get_or asked i d in place_of keys caller a.key)
    → (let a : KeyMeta = get_or asked i d in metas ++ record { index = index; signer = a.signer; writable = a.writable } ∷ []) ≡ map (meta_of keys caller) (take (i + 1) asked)
found-more keys caller asked metas i d index below found place =
    let a : KeyMeta = get_or asked i d in
    let one : (let m : Meta = record { index = index; signer = a.signer; writable = a.writable } in m) ≡ meta_of keys caller a =
    ap (λ (o : Option ℕ). let m : Meta = record { index = unwrap_or o 0; signer = a.signer; writable = a.writable } in m) place in
    ap (λ (m : Meta). metas ++ m ∷ []) one ∙ ap (λ (ms : List Meta). ms ++ meta_of keys caller a ∷ []) found ∙ sym (map_more (meta_of keys caller) asked i d below)

missing : (keys : List Key) (caller : List Meta) (asked : KeyMeta) → None ≡ place_of keys caller asked.key → is_missing keys caller asked ≡ true
missing keys caller asked none = rw (← none) refl

present : (keys : List Key) (caller : List Meta) (asked : KeyMeta) (index : ℕ) → Some index ≡ place_of keys caller asked.key → is_missing keys caller asked ≡ false
present keys caller asked index some = rw (← some) refl

-- the next account is missing
pub missing-at : (keys : List Key) (caller : List Meta) (asked : List KeyMeta) (i : ℕ) (d : KeyMeta) → i < length asked → None ≡ (let a : KeyMeta = get_or asked i d in place_of keys caller a.key)
    → position_from (is_missing keys caller) i (drop i asked) ≡ Some i
missing-at keys caller asked i d below none = position-found (is_missing keys caller) asked i d below (missing keys caller (get_or asked i d) none)

-- the next account is there
pub present-at : (keys : List Key) (caller : List Meta) (asked : List KeyMeta) (i : ℕ) (d : KeyMeta) (index : ℕ)
    → i < length asked → Some index ≡ (let a : KeyMeta = get_or asked i d in place_of keys caller a.key)
    → position_from (is_missing keys caller) i (drop i asked) ≡ position_from (is_missing keys caller) (i + 1) (drop (i + 1) asked)
present-at keys caller asked i d index below some = position-more (is_missing keys caller) asked i d below (present keys caller (get_or asked i d) index some)

pub ruleset grants = exceeds-found
