-- The first of the differences, walked from the front.
use Rattle.std.proofs.Common.{◌≡◌, ℕ, ◌+◌, ◌<◌, List, [], ◌∷◌, ◌++◌, length, take, drop, refl, sym, ap, ◌∙◌, Some, None, drop-cons, add-one, zero-add, ◌≤◌, arith, get_or}
use Rattle.std.specs.Prelude.{slice_get}
use Rattle.std.specs.List.{flat_map, enumerate_from, zip}
use Rattle.std.proofs.lemmas.Grind.{flat_map-append}
use Rattle.std.proofs.lemmas.List.{take_more, take-append-drop}
use Rattle.std.proofs.Math.Seq.{take-length}
use Rattle.std.proofs.lemmas.List.FromFn.{get_or-enumerate_from, length-enumerate_from}
use Rattle.std.proofs.lemmas.Slice.Zip.{get_or-zip, length-zip}
use Rattle.block_record.specs.declared.block.Entry.{Entry}
use Rattle.block_replay.specs.declared.verdict.Verdict.{Verdict}
use Rattle.block_replay.specs.Verdict.{entries_differences, entry_differences}

pub no_first : {X : Type 0} (xs : List X) → slice_get xs 0 ≡ None → xs ≡ []
no_first [] none = refl
no_first (x ∷ xs) none = absurd (cc)

pub first_in_front : {X : Type 0} (xs ys : List X) (x : X) → slice_get xs 0 ≡ Some x → slice_get (xs ++ ys) 0 ≡ Some x
first_in_front [] ys x here = absurd (cc)
first_in_front (z ∷ xs) ys x here = here

-- nothing of the first items, and nothing of the next
pub nothing_more : {X Y : Type 0} (f : X → List Y) (xs : List X) (n : ℕ) (d : X) → n < length xs
    → flat_map f (take n xs) ≡ [] → slice_get (f (get_or xs n d)) 0 ≡ None → flat_map f (take (n + 1) xs) ≡ []
nothing_more f xs n d below none here =
    rw (take_more xs n d below, flat_map-append f (take n xs) (get_or xs n d ∷ []), none, no_first (f (get_or xs n d)) here) refl

-- nothing of the first items, and something of the next
pub first_found : {X Y : Type 0} (f : X → List Y) (xs : List X) (n : ℕ) (d : X) (y : Y) → n < length xs
    → flat_map f (take n xs) ≡ [] → slice_get (f (get_or xs n d)) 0 ≡ Some y
    → slice_get (flat_map f xs) 0 ≡ Some y
first_found f xs n d y below none here =
    let split : xs ≡ take n xs ++ (get_or xs n d ∷ drop (n + 1) xs) = sym (take-append-drop n xs) ∙ ap (λ ys. take n xs ++ ys) (rw add-one (drop-cons xs n d below)) in
    ap (λ zs. slice_get (flat_map f zs) 0) split
    ∙ ap (λ zs. slice_get zs 0) (flat_map-append f (take n xs) (get_or xs n d ∷ drop (n + 1) xs))
    ∙ ap (λ zs. slice_get (zs ++ flat_map f (get_or xs n d ∷ drop (n + 1) xs)) 0) none
    ∙ first_in_front (f (get_or xs n d)) (flat_map f (drop (n + 1) xs)) y here

-- ---- the entries
abbrev pub pairs : List Entry → List Entry → List (ℕ × (Entry × Entry))
pairs given replayed = enumerate_from 0 (zip given replayed)

-- none of the first n entries differs
abbrev pub NoneDiffers : List Entry → List Entry → ℕ → Type 0
NoneDiffers given replayed n = flat_map entry_differences (take n (pairs given replayed)) ≡ []

module _ (given replayed : List Entry) (cut : length replayed ≤ length given) where
  zipped : length (zip given replayed) ≡ length replayed
  zipped = omega (arith, length-zip given replayed, cut)

  pub length-pairs : length (pairs given replayed) ≡ length replayed
  length-pairs = length-enumerate_from 0 (zip given replayed) ∙ zipped

  pair_at : (n : ℕ) (g r : Entry) → n < length replayed → g ≡ get_or given n g → r ≡ get_or replayed n r → get_or (pairs given replayed) n (n, (g, r)) ≡ (n, (g, r))
  pair_at n g r below is_given is_replayed =
      let there : n < length given = omega (arith, below, cut) in
      let pair : get_or (zip given replayed) n (g, r) ≡ (g, r) = get_or-zip given replayed n (g, r) there below ∙ (λ i. (sym is_given i, sym is_replayed i)) in
      get_or-enumerate_from 0 (zip given replayed) n (n, (g, r)) (omega (arith, below, zipped)) ∙ (λ i. (zero-add n i, pair i))

  pub goes_on : (n : ℕ) (g r : Entry) → n < length replayed → g ≡ get_or given n g → r ≡ get_or replayed n r
      → NoneDiffers given replayed n → slice_get (entry_differences (n, (g, r))) 0 ≡ None
      → NoneDiffers given replayed (n + 1)
  goes_on n g r below is_given is_replayed none here =
      nothing_more entry_differences (pairs given replayed) n (n, (g, r)) (omega (arith, below, length-pairs)) none
      (ap (λ e. slice_get (entry_differences e) 0) (pair_at n g r below is_given is_replayed) ∙ here)

  pub stops : (n : ℕ) (g r : Entry) (difference : Verdict) → n < length replayed → g ≡ get_or given n g
      → r ≡ get_or replayed n r → NoneDiffers given replayed n
      → slice_get (entry_differences (n, (g, r))) 0 ≡ Some difference
      → slice_get (entries_differences given replayed) 0 ≡ Some difference
  stops n g r difference below is_given is_replayed none here =
      first_found entry_differences (pairs given replayed) n (n, (g, r)) difference (omega (arith, below, length-pairs)) none
      (ap (λ e. slice_get (entry_differences e) 0) (pair_at n g r below is_given is_replayed) ∙ here)

  pub ends : (n : ℕ) → n ≡ length replayed → NoneDiffers given replayed n → slice_get (entries_differences given replayed) 0 ≡ None
  ends n whole none =
      let all : take n (pairs given replayed) ≡ pairs given replayed = ap (λ m. take m (pairs given replayed)) (whole ∙ sym length-pairs) ∙ take-length (pairs given replayed) in
      ap (λ l. slice_get (flat_map entry_differences l) 0) (sym all) ∙ ap (λ l. slice_get l 0) none
