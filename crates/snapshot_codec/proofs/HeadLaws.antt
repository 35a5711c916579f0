-- What a snapshot begins with: what is spelled is read again, and what is read is spelled so.
use Rattle.std.proofs.Common.{◌≡◌, ◌<◌, ◌≤◌, ◌^◌, ◌⊎◌, inl, inr, ℕ, List, [], ◌∷◌, ◌++◌, Ok, Err, true, false, ◌&&◌, refl, sym, ap, subst, ◌∙◌, append_assoc, arith}
use Rattle.std.specs.Prelude.{codes, nat_le}
use Rattle.std.specs.Int.{w16, w64, to_le_bytes}
use Rattle.std.specs.Cmp.Lexicographic.{bytes_decides}
use Rattle.std.proofs.lemmas.Bool.Decides.{nat_tests}
use Rattle.spec_base.specs.Bytes.{IsBytes}
use Rattle.spec_base.specs.Reading.{read_as}
use Rattle.spec_base.proofs.Binding.{chosen, ok_parts, onward, follows}
use Rattle.spec_base.proofs.Formats.{Reads, by_taking, field_reads, byte_reads, u16_reads, u64_reads, read_if_reads}
use Rattle.sol_base.specs.declared.limits.Limits.{Limits}
use Rattle.sol_base.specs.Limits.{first_limits, max_block_units, max_transaction_keys, max_stack_height}
use Rattle.snapshot_codec.specs.declared.fault.SnapshotFault.TheVariants.{Magic, Truncated, BadField}
use Rattle.snapshot_codec.specs.Snapshot.{limits_bytes, AreAllowed, IsUpTo}
use Rattle.snapshot_codec.specs.SnapshotReading.{Read, limit_at, height_at, limits_at, names_one, names_two, head_one_at, head_two_at, head_at}

in_range : (most n : ℕ) → (nat_le 1 n && nat_le n most) ≡ true → IsUpTo most n
in_range most n h = (low, high)
  where
    low : 1 ≤ n
    low = grind (arith, nat_tests)

    high : n ≤ most
    high = grind (arith, nat_tests)

range_passes : (most n : ℕ) → IsUpTo most n → (nat_le 1 n && nat_le n most) ≡ true
range_passes most n h =
    let low : nat_le 1 n ≡ true = let t = h.0 in grind (arith, nat_tests) in
    let high : nat_le n most ≡ true = let t = h.1 in grind (arith, nat_tests) in
    rw (low, high) refl

abbrev Passes : ℕ → ℕ → Type 0
Passes most n = (nat_le 1 n && nat_le n most) ≡ true

keys_reads : (total : ℕ) → Reads (limit_at max_transaction_keys w16 total) (to_le_bytes w16) (λ n. (n < 2 ^ 16) × Passes max_transaction_keys n)
keys_reads total = read_if_reads BadField (λ n. nat_le 1 n && nat_le n max_transaction_keys) total (u16_reads Truncated total)

height_reads : (total : ℕ) → Reads (height_at total) (λ n. n ∷ []) (λ n. (n < 256) × Passes max_stack_height n)
height_reads total = read_if_reads BadField (λ n. nat_le 1 n && nat_le n max_stack_height) total (byte_reads Truncated total)

units_reads : (total : ℕ) → Reads (limit_at max_block_units w64 total) (to_le_bytes w64) (λ n. (n < 2 ^ 64) × Passes max_block_units n)
units_reads total = read_if_reads BadField (λ n. nat_le 1 n && nat_le n max_block_units) total (u64_reads Truncated total)

keys_fit : (n : ℕ) → IsUpTo max_transaction_keys n → (n < 2 ^ 16) × Passes max_transaction_keys n
keys_fit n h = (let t = h.1 in omega arith, range_passes max_transaction_keys n h)

height_fits : (n : ℕ) → IsUpTo max_stack_height n → (n < 256) × Passes max_stack_height n
height_fits n h = (let t = h.1 in omega arith, range_passes max_stack_height n h)

units_fit : (n : ℕ) → IsUpTo max_block_units n → (n < 2 ^ 64) × Passes max_block_units n
units_fit n h = (let t = h.1 in omega arith, range_passes max_block_units n h)

limits_again : (total : ℕ) (limits : Limits) (rest : List ℕ) → AreAllowed limits → limits_at total (limits_bytes limits ++ rest) ≡ Ok (limits, rest)
unfolding limits_at
limits_again total l rest fits =
    let units = to_le_bytes w64 l.block_units ++ rest in
    let key_units = to_le_bytes w64 l.key_units ++ units in
    let height = l.height ∷ [] ++ key_units in
    let front : limits_bytes l ++ rest ≡ to_le_bytes w16 l.keys ++ height = simp append_assoc in
    subst (λ (b : List ℕ). limits_at total b ≡ Ok (l, rest)) (sym front)
    (rw (
      (keys_reads total).again l.keys height (keys_fit l.keys fits.keys),
      (height_reads total).again l.height key_units (height_fits l.height fits.height),
      (units_reads total).again l.key_units units (units_fit l.key_units fits.key_units),
      (units_reads total).again l.block_units rest (units_fit l.block_units fits.block_units),
    ) refl)

limits_takes : (total : ℕ) (bytes : List ℕ) (limits : Limits) (rest : List ℕ) → IsBytes bytes → limits_at total bytes ≡ Ok (limits, rest) → AreAllowed limits × (bytes ≡ limits_bytes limits ++ rest)
unfolding limits_at
limits_takes total bytes limits rest are h =
    by_taking (keys_reads total) _ bytes (limits, rest) are h (λ keys r1 f1 e1 b1 g1.
    by_taking (height_reads total) _ r1 (limits, rest) b1 g1 (λ height r2 f2 e2 b2 g2.
    by_taking (units_reads total) _ r2 (limits, rest) b2 g2 (λ key_units r3 f3 e3 b3 g3.
    by_taking (units_reads total) _ r3 (limits, rest) b3 g3 (λ block_units r4 f4 e4 b4 g4.
    let p = ok_parts _ _ _ _ g4 in
    let a = follows (to_le_bytes w16 keys) (height ∷ []) r2 e1 e2 in
    let b = follows (to_le_bytes w16 keys ++ height ∷ []) (to_le_bytes w64 key_units) r3 a e3 in
    let c = follows (to_le_bytes w16 keys ++ height ∷ [] ++ to_le_bytes w64 key_units) (to_le_bytes w64 block_units) rest b (onward (to_le_bytes w64 block_units) e4 p.1) in
    subst (λ (v : Limits). AreAllowed v × (bytes ≡ limits_bytes v ++ rest)) p.0 (
      record {
        keys = in_range max_transaction_keys keys f1.1;
        height = in_range max_stack_height height f2.1;
        key_units = in_range max_block_units key_units f3.1;
        block_units = in_range max_block_units block_units
            f4.1;
      },
      c,
    )))))

limits_reads : (total : ℕ) → Reads (limits_at total) limits_bytes AreAllowed
limits_reads total = record { again = limits_again total; takes = limits_takes total }

-- slot and limits as one of the two versions has them
pub record IsHead (bytes : List ℕ) (head : ℕ × Limits) (rest : List ℕ) : Type 0 where
  pub slot : head.0 < 2 ^ 64
  pub spelled : ((bytes ≡ codes "SOLSNAP1" ++ to_le_bytes w64 head.0 ++ rest) × (head.1 ≡ first_limits))
      ⊎ ((bytes ≡ codes "SOLSNAP2" ++ to_le_bytes w64 head.0 ++ limits_bytes head.1 ++ rest)
      × AreAllowed head.1)

magic_one : names_one (codes "SOLSNAP1") ≡ true
unfolding names_one
magic_one = refl

not_one : names_one (codes "SOLSNAP2") ≡ false
unfolding names_one
not_one = refl

magic_two : names_two (codes "SOLSNAP2") ≡ true
unfolding names_two
magic_two = refl

pub head_one_again : (total slot : ℕ) (rest : List ℕ) → slot < 2 ^ 64 → head_at total (codes "SOLSNAP1" ++ to_le_bytes w64 slot ++ rest) ≡ Ok ((slot, first_limits), rest)
unfolding head_at head_one_at read_as
head_one_again total slot rest fits =
    let after = to_le_bytes w64 slot ++ rest in
    let front : codes "SOLSNAP1" ++ to_le_bytes w64 slot ++ rest ≡ codes "SOLSNAP1" ++ after = append_assoc (codes "SOLSNAP1") (to_le_bytes w64 slot) rest in
    subst (λ (b : List ℕ). head_at total b ≡ Ok ((slot, first_limits), rest)) (sym front)
    (rw ((field_reads Truncated total 8).again (codes "SOLSNAP1") after refl, magic_one, (u64_reads Truncated total).again slot rest fits) refl)

pub head_two_again : (total slot : ℕ) (limits : Limits) (rest : List ℕ) → slot < 2 ^ 64 → AreAllowed limits
    → head_at total (codes "SOLSNAP2" ++ to_le_bytes w64 slot ++ limits_bytes limits ++ rest)
    ≡ Ok ((slot, limits), rest)
unfolding head_at head_two_at
head_two_again total slot limits rest fits allowed =
    let after = limits_bytes limits ++ rest in
    let all = to_le_bytes w64 slot ++ after in
    let front : codes "SOLSNAP2" ++ to_le_bytes w64 slot ++ limits_bytes limits ++ rest ≡ codes "SOLSNAP2" ++ all =
    append_assoc (codes "SOLSNAP2" ++ to_le_bytes w64 slot) (limits_bytes limits) rest ∙ append_assoc (codes "SOLSNAP2") (to_le_bytes w64 slot) after in
    subst (λ (b : List ℕ). head_at total b ≡ Ok ((slot, limits), rest)) (sym front)
    (rw ((field_reads Truncated total 8).again (codes "SOLSNAP2") all refl, not_one, magic_two, (u64_reads Truncated total).again slot after fits, limits_again total limits rest allowed) refl)

named_one : (magic : List ℕ) → names_one magic ≡ true → magic ≡ codes "SOLSNAP1"
unfolding names_one
named_one magic h = (bytes_decides magic (codes "SOLSNAP1")).0 h

named_two : (magic : List ℕ) → names_two magic ≡ true → magic ≡ codes "SOLSNAP2"
unfolding names_two
named_two magic h = (bytes_decides magic (codes "SOLSNAP2")).0 h

one_takes : (total : ℕ) (bytes : List ℕ) (head : ℕ × Limits) (rest : List ℕ) → IsBytes bytes
    → head_one_at total bytes ≡ Ok (head, rest)
    → (head.0 < 2 ^ 64) × (bytes ≡ to_le_bytes w64 head.0 ++ rest) × (head.1 ≡ first_limits)
unfolding head_one_at read_as
one_takes total bytes head rest are h =
    by_taking (u64_reads Truncated total) _ bytes (head, rest) are h (λ slot r1 f1 e1 b1 g1.
    let p = ok_parts _ _ _ _ g1 in
    subst (λ (v : ℕ × Limits). (v.0 < 2 ^ 64) × (bytes ≡ to_le_bytes w64 v.0 ++ rest) × (v.1 ≡ first_limits)) p.0 (f1, onward (to_le_bytes w64 slot) e1 p.1, refl))

two_takes : (total : ℕ) (bytes : List ℕ) (head : ℕ × Limits) (rest : List ℕ) → IsBytes bytes
    → head_two_at total bytes ≡ Ok (head, rest)
    → (head.0 < 2 ^ 64) × (bytes ≡ to_le_bytes w64 head.0 ++ limits_bytes head.1 ++ rest) × AreAllowed head.1
unfolding head_two_at
two_takes total bytes head rest are h =
    by_taking (u64_reads Truncated total) _ bytes (head, rest) are h (λ slot r1 f1 e1 b1 g1.
    by_taking (limits_reads total) _ r1 (head, rest) b1 g1 (λ limits r2 f2 e2 b2 g2.
    let p = ok_parts _ _ _ _ g2 in
    subst (λ (v : ℕ × Limits). (v.0 < 2 ^ 64) × (bytes ≡ to_le_bytes w64 v.0 ++ limits_bytes v.1 ++ rest) × AreAllowed v.1) p.0
    (f1, follows (to_le_bytes w64 slot) (limits_bytes limits) rest e1 (onward (limits_bytes limits) e2 p.1), f2)))

pub head_takes : (total : ℕ) (bytes : List ℕ) (head : ℕ × Limits) (rest : List ℕ) → IsBytes bytes → head_at total bytes ≡ Ok (head, rest) → IsHead bytes head rest
unfolding head_at
head_takes total bytes head rest are h =
    by_taking (field_reads Truncated total 8) _ bytes (head, rest) are h (λ magic r1 f1 e1 b1 g1.
    elim (chosen (names_one magic) _ _ _ g1) [
      | inl p ↦ let t = one_takes total r1 head rest b1 p.1 in
          record { slot = t.0; spelled = inl (follows (codes "SOLSNAP1") (to_le_bytes w64 head.0) rest (named magic r1 (codes "SOLSNAP1") e1 (named_one magic p.0)) t.1, t.2) }
      | inr q ↦ elim (chosen (names_two magic) _ _ _ q.1) [
        | inl p ↦ let t = two_takes total r1 head rest b1 p.1 in
            let all : r1 ≡ to_le_bytes w64 head.0 ++ (limits_bytes head.1 ++ rest) = t.1 ∙ append_assoc (to_le_bytes w64 head.0) (limits_bytes head.1) rest in
            let first = follows (codes "SOLSNAP2") (to_le_bytes w64 head.0) (limits_bytes head.1 ++ rest) (named magic r1 (codes "SOLSNAP2") e1 (named_two magic p.0)) all in
            record { slot = t.0; spelled = inr (first ∙ sym (append_assoc (codes "SOLSNAP2" ++ to_le_bytes w64 head.0) (limits_bytes head.1) rest), t.2) }
        | inr r ↦ absurd (refused r.1)
      ]
    ])
  where
    named : (magic r text : List ℕ) → bytes ≡ magic ++ r → magic ≡ text → bytes ≡ text ++ r
    named magic r text e same = e ∙ ap (λ (l : List ℕ). l ++ r) same

    refused : (let l : Read (ℕ × Limits) = Err Magic in l) ≡ Ok (head, rest) → ⊥
    refused e = cc
