-- Each key that is listed is one of the message's own or is loaded, and not both.
use Rattle.std.proofs.Common.{◌≡◌, suc, ◌+◌, Bool, true, false, ◌&&◌, ◌||◌, not, List, [], ◌∷◌, ◌++◌, length, map, if◌then◌else◌, refl, arith, length-append}
use Rattle.std.specs.Prelude.{filter}
use Rattle.std.specs.List.{AllByRecursion, flat_map, list_any}
use Rattle.std.proofs.lemmas.Bool.{and_parts}
use Rattle.std.proofs.lemmas.List.{length-map}
use Rattle.std.proofs.lemmas.List.Filters.{length-filter_both}
use Rattle.sol_base.specs.declared.key.Key.{Key}
use Rattle.tx_build.specs.declared.draft.LookupTable.{LookupTable}
use Rattle.tx_build.specs.declared.draft.Draft.{Draft}
use Rattle.tx_build.specs.declared.mentions.Mention.{Mention}
use Rattle.tx_build.specs.Mentions.{listed}
use Rattle.tx_build.specs.Classes.{is_writable_signer, is_readonly_signer, is_writable_other, is_readonly_other, keys_where, ordered_keys}
use Rattle.tx_build.specs.Tables.{holds, is_loaded, own_mentions, loaded_mentions, written_in, read_in, shares_of, loaded_keys}
use Rattle.tx_build.specs.Built.{tables_of, draft_mentions, own_keys, draft_shares, keys_of}

-- ---- the message's own keys

-- each is of one class
classes_count : (ms : List Mention)
    → length (filter is_writable_signer ms) + length (filter is_readonly_signer ms) + length
    (filter is_writable_other ms) + length (filter is_readonly_other ms) ≡ length ms
classes_count [] = refl
classes_count (m ∷ ms) = by_class m.signer m.writable (classes_count ms)
  where
    by_class : (s w : Bool) → length (filter is_writable_signer ms) + length (filter is_readonly_signer ms) +
        length (filter is_writable_other ms) + length (filter is_readonly_other ms) ≡ length ms
        → length (if s && w then m ∷ filter is_writable_signer ms else filter is_writable_signer ms) + length
        (if s && not w then m ∷ filter is_readonly_signer ms else filter is_readonly_signer ms)
        + length (if not s && w then m ∷ filter is_writable_other ms else filter is_writable_other ms) + length
        (if not s && not w then m ∷ filter is_readonly_other ms else filter is_readonly_other ms)
        ≡ suc (length ms)
    by_class true true rest = omega (arith, rest)
    by_class true false rest = omega (arith, rest)
    by_class false true rest = omega (arith, rest)
    by_class false false rest = omega (arith, rest)

ordered_count : (ms : List Mention) → length (ordered_keys ms) ≡ length ms
ordered_count ms =
    let a = keys_where is_writable_signer ms in
    let b = keys_where is_readonly_signer ms in
    let c = keys_where is_writable_other ms in
    let d = keys_where is_readonly_other ms in
    let key : Mention → Key = λ mention. mention.key in
    omega (
      arith,
      classes_count ms,
      length-append a b,
      length-append (a ++ b) c,
      length-append (a ++ b ++ c) d,
      length-map (filter is_writable_signer ms) key,
      length-map (filter is_readonly_signer ms) key,
      length-map
          (filter is_writable_other ms) key,
      length-map (filter is_readonly_other ms) key,
    )

-- ---- the loaded keys

-- some table holds the key
abbrev IsHeld : List LookupTable → Mention → Type 0
IsHeld tables m = list_any (λ table. holds table m) tables ≡ true

loaded_held : (tables : List LookupTable) (ms : List Mention) → AllByRecursion (IsHeld tables) (loaded_mentions tables ms)
loaded_held tables [] = tt
loaded_held tables (m ∷ ms) = by_test (is_loaded tables m) refl (loaded_held tables ms)
  where
    by_test : (b : Bool) → is_loaded tables m ≡ b → AllByRecursion (IsHeld tables) (loaded_mentions tables ms)
        → AllByRecursion (IsHeld tables)
        (if b then m ∷ loaded_mentions tables ms else loaded_mentions tables ms)
    by_test true is rest = ((and_parts (not m.signer && not m.program) (list_any (λ table. holds table m) tables) is).1, rest)
    by_test false is rest = rest

-- what the first table does not hold, a later one does
left_held : (table : LookupTable) (tables : List LookupTable) (ms : List Mention) → AllByRecursion (IsHeld (table ∷ tables)) ms → AllByRecursion (IsHeld tables) (filter (λ m. not (holds table m)) ms)
left_held table tables [] h = tt
left_held table tables (m ∷ ms) h = by_test (holds table m) h.0 (left_held table tables ms h.1)
  where
    by_test : (b : Bool) → (b || list_any (λ later. holds later m) tables) ≡ true
        → AllByRecursion (IsHeld tables) (filter (λ one. not (holds table one)) ms)
        → AllByRecursion (IsHeld tables)
        (if not b then m ∷ filter (λ one. not (holds table one)) ms else filter (λ one. not (holds table one))
        ms)
    by_test true held rest = rest
    by_test false held rest = (held, rest)

-- a table holds a key to be written, to be read, or not at all
share_count : (table : LookupTable) (ms : List Mention) → length (written_in table ms) + length (read_in table ms) + length (filter (λ m. not (holds table m)) ms) ≡ length ms
share_count table [] = refl
share_count table (m ∷ ms) = by_class (holds table m) m.writable (share_count table ms)
  where
    by_class : (h w : Bool) → length (written_in table ms) + length (read_in table ms) + length
        (filter (λ one. not (holds table one)) ms) ≡ length ms
        → length (if h && w then m ∷ written_in table ms else written_in table ms) + length
        (if h && not w then m ∷ read_in table ms else read_in table ms)
        + length (if not h then m ∷ filter (λ one. not (holds table one)) ms else filter (λ one. not (holds table one)) ms) ≡ suc (length ms)
    by_class true true rest = omega (arith, rest)
    by_class true false rest = omega (arith, rest)
    by_class false true rest = omega (arith, rest)
    by_class false false rest = omega (arith, rest)

shares_count : (tables : List LookupTable) (ms : List Mention) → AllByRecursion (IsHeld tables) ms
    → length (flat_map (λ share. share.writable) (shares_of tables ms)) + length
    (flat_map (λ share. share.readonly) (shares_of tables ms)) ≡ length ms
shares_count [] [] h = refl
shares_count [] (m ∷ ms) h = absurd (cc)
shares_count (table ∷ tables) ms h =
    let left = filter (λ m. not (holds table m)) ms in
    let key : Mention → Key = λ mention. mention.key in
    omega (
      arith,
      share_count table ms,
      shares_count tables left (left_held table tables ms h),
      length-map (written_in table ms) key,
      length-map (read_in table ms) key,
      length-append (map key (written_in table ms)) (flat_map (λ share. share.writable) (shares_of tables left)),
      length-append (map key (read_in table ms)) (flat_map (λ share. share.readonly) (shares_of tables left)),
    )

-- ---- all keys

pub keys_are_listed : (draft : Draft) → length (keys_of draft) ≡ length (listed draft)
unfolding draft_mentions own_keys draft_shares keys_of
keys_are_listed draft =
    let tables = tables_of draft.version in
    let all = listed draft in
    let shares = draft_shares draft in
    omega (
      arith,
      ordered_count (own_mentions tables all),
      shares_count tables (loaded_mentions tables all) (loaded_held tables all),
      length-filter_both (is_loaded tables) (λ m. not (is_loaded tables m)) (λ m. refl) all,
      length-append (own_keys draft) (loaded_keys shares),
      length-append (flat_map (λ share. share.writable) shares) (flat_map (λ share. share.readonly) shares),
    )
