-- Mentions that are joined by their keys.
use Rattle.std.proofs.Common.{◌≡◌, ◌<◌, ◌+◌, ◌∙◌, ℕ, Bool, true, false, ◌&&◌, ◌||◌, List, [], ◌∷◌, length, take, get_or, Option, None, Some, option_to_list, cond, if◌then◌else◌, refl, sym, ap, BTreeMap}
use Rattle.std.specs.List.{list_any}
use Rattle.std.specs.BTreeMap.{get, is_at}
use Rattle.std.proofs.Math.Bool.{or-false}
use Rattle.std.proofs.lemmas.Bool.{or_parts}
use Rattle.std.proofs.lemmas.List.Folds.{list_any_at, list_any_more}
use Rattle.sol_base.specs.declared.key.Key.{Key}
use Rattle.sol_base.specs.Keys.{key_cmp, same_key}
use Rattle.sol_base.proofs.KeyLaws.{same_cmp, same_key-self, same_key-true}
use Rattle.tx_build.specs.declared.mentions.Mention.{Mention}
use Rattle.tx_build.specs.Mentions.{added, is_of, joined, mentioned, strongest}

-- what a map answers where one key of it changed
pub get_changed : (old new : BTreeMap Key Mention) (here : Key) (value : Option Mention) → ((key : Key) → get key_cmp new key ≡ cond (is_at (key_cmp here) key) value (get key_cmp old key))
    → (key : Key) → get key_cmp new key ≡ (if same_key here key then value else get key_cmp old key)
get_changed old new here value updates key = updates key ∙ ap (λ b. cond b value (get key_cmp old key)) (same_cmp here key)

-- ---- a mention more

-- where no mention passes a test, none passes it with another
none_both : (f g : Mention → Bool) (ms : List Mention) → list_any f ms ≡ false → list_any (λ m. f m && g m) ms ≡ false
none_both f g [] h = refl
none_both f g (m ∷ ms) h = let parts = or_parts (f m) (list_any f ms) h in rw parts.0 (none_both f g ms parts.1)

-- what is told of a key, by what its mentions ask
abbrev told : Bool → Bool → Bool → Bool → Key → Option Mention
told any signer writable program key = if any then Some (record { key = key; signer = signer; writable = writable; program = program }) else None

told_joined : (m : Mention) (any signer writable program : Bool) → (any ≡ false → signer ≡ false) → (any ≡ false → writable ≡ false) → (any ≡ false → program ≡ false)
    → told (any || true) (signer || m.signer) (writable || m.writable) (program || m.program) m.key ≡ Some (joined (told any signer writable program m.key) m)
told_joined m true signer writable program s w p = refl
told_joined m false signer writable program s w p = rw (s refl, w refl, p refl) refl

module _ (ms : List Mention) (i : ℕ) (d : Mention) (below : i < length ms) where
  abbrev m : Mention
  m = get_or ms i d

  abbrev asks : Key → (Mention → Bool) → Bool
  asks key ask = list_any (λ one. is_of key one && ask one) (take i ms)

  -- another key's mention asks nothing of a key
  other_more : (f : Mention → Bool) → f m ≡ false → list_any f (take (i + 1) ms) ≡ list_any f (take i ms)
  other_more f h = list_any_more f ms i d below ∙ rw h (or-false (list_any f (take i ms)))

  here_more : (f : Mention → Bool) (b : Bool) → f m ≡ b → list_any f (take (i + 1) ms) ≡ list_any f (take i ms) || b
  here_more f b h = list_any_more f ms i d below ∙ ap (λ c. list_any f (take i ms) || c) h

  mentioned_other : (key : Key) → is_of key m ≡ false → mentioned (take (i + 1) ms) key ≡ mentioned (take i ms) key
  mentioned_other key h =
      let any = other_more (is_of key) h in
      let signer = other_more (λ one. is_of key one && one.signer) (rw h refl) in
      let writable = other_more (λ one. is_of key one && one.writable) (rw h refl) in
      let program = other_more (λ one. is_of key one && one.program) (rw h refl) in
      λ j. told (any j) (signer j) (writable j) (program j) key

  mentioned_own : mentioned (take (i + 1) ms) m.key ≡ Some (joined (mentioned (take i ms) m.key) m)
  mentioned_own =
      let own = same_key-self m.key in
      let any = here_more (is_of m.key) true own in
      let signer = here_more (λ one. is_of m.key one && one.signer) m.signer (rw own refl) in
      let writable = here_more (λ one. is_of m.key one && one.writable) m.writable (rw own refl) in
      let program = here_more (λ one. is_of m.key one && one.program) m.program (rw own refl) in
      (λ j. told (any j) (signer j) (writable j) (program j) m.key)
      ∙ told_joined m (list_any (is_of m.key) (take i ms)) (asks m.key (λ one. one.signer)) (asks m.key (λ one. one.writable)) (asks m.key (λ one. one.program))
      (none_both (is_of m.key) (λ one. one.signer) (take i ms)) (none_both (is_of m.key) (λ one. one.writable) (take i ms)) (none_both (is_of m.key) (λ one. one.program) (take i ms))

  -- what is kept by keys, with one mention more
  pub joined_more : (old new : BTreeMap Key Mention) → ((key : Key) → get key_cmp old key ≡ mentioned (take i ms) key)
      → ((key : Key) → get key_cmp new key ≡ (if is_of key m then Some (joined (get key_cmp old m.key) m) else get key_cmp old key))
      → (key : Key) → get key_cmp new key ≡ mentioned (take (i + 1) ms) key
  joined_more old new kept put key = put key ∙ by_test (is_of key m) refl
    where
      by_test : (b : Bool) → is_of key m ≡ b → (if b then Some (joined (get key_cmp old m.key) m) else get key_cmp old key) ≡ mentioned (take (i + 1) ms) key
      by_test true own = ap (λ (o : Option Mention). Some (joined o m)) (kept m.key) ∙ sym mentioned_own ∙ ap (mentioned (take (i + 1) ms)) (same_key-true m.key key own)
      by_test false other = kept key ∙ sym (mentioned_other key other)

-- ---- a key that is listed

-- what is asked of a key that is not listed with the mentions before a place
abbrev pub unlisted_at : List Mention → ℕ → Key → Option Mention
unlisted_at ms i key = if list_any (is_of key) (take i ms) then None else mentioned ms key

module _ (ms : List Mention) (i : ℕ) (d : Mention) (below : i < length ms) where
  abbrev this : Mention
  this = get_or ms i d

  -- what the mention adds to the list
  pub listed_here : option_to_list (unlisted_at ms i this.key) ≡ added ms (i, this)
  listed_here = by_test (list_any (is_of this.key) (take i ms))
    where
      found : list_any (is_of this.key) ms ≡ true
      found = list_any_at (is_of this.key) ms i d below (same_key-self this.key)

      by_test : (b : Bool) → option_to_list (if b then None else mentioned ms this.key) ≡ (if b then [] else strongest ms this.key ∷ [])
      by_test true = refl
      by_test false = rw found refl

  pub unlisted_more : (old new : BTreeMap Key Mention) → ((key : Key) → get key_cmp old key ≡ unlisted_at ms i key)
      → ((key : Key) → get key_cmp new key ≡ (if is_of key this then None else get key_cmp old key))
      → (key : Key) → get key_cmp new key ≡ unlisted_at ms (i + 1) key
  unlisted_more old new kept left key = left key ∙ (by_test (is_of key this) ∙ ap (λ b. if b then None else mentioned ms key) (sym (list_any_more (is_of key) ms i d below)))
    where
      by_both : (was : Bool) → (if was then None else mentioned ms key) ≡ (if was || false then None else mentioned ms key)
      by_both true = refl
      by_both false = refl

      by_none : (was : Bool) → None ≡ (if was || true then None else mentioned ms key)
      by_none true = refl
      by_none false = refl

      by_test : (b : Bool) → (if b then None else get key_cmp old key) ≡ (if list_any (is_of key) (take i ms) || b then None else mentioned ms key)
      by_test true = by_none (list_any (is_of key) (take i ms))
      by_test false = kept key ∙ by_both (list_any (is_of key) (take i ms))
