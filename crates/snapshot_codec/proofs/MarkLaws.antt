-- Marks: what is spelled is read again, and what is read is spelled so.
use Rattle.sol_base.specs.Limits.{max_transactions}
use Rattle.std.proofs.Common.{◌≡◌, ◌<◌, ◌≤◌, ℕ, List, [], ◌∷◌, ◌++◌, length, map, take, Ok, Option, Some, None, refl, sym, ap, subst, ◌∙◌, append_assoc, All, lit<, arith}
use Rattle.std.specs.Prelude.{nat_le, IfNone}
use Rattle.std.specs.Int.{w32, to_le_bytes}
use Rattle.std.specs.List.{flat_map, AllByRecursion}
use Rattle.std.specs.List.Sorted.{IsStrictlySortedBy}
use Rattle.std.proofs.lemmas.List.{length-append, take_all}
use Rattle.std.proofs.lemmas.List.Elements.{All-from_recursion, recursion_from_All}
use Rattle.spec_base.specs.Bytes.{IsBytes}
use Rattle.spec_base.specs.Reading.{AllAfter}
use Rattle.spec_base.proofs.Binding.{ok_parts, onward, follows}
use Rattle.spec_base.proofs.Formats.{Reads, by_taking, u32_reads, read_if_reads, many_after_reads, many_reads, AllAfter-all, all-AllAfter}
use Rattle.sol_base.specs.declared.key.Hash32.{Hash32}
use Rattle.sol_base.specs.Keys.{IsHash, hash_bytes, hash_cmp}
use Rattle.sol_base.proofs.KeyLaws.{hash_cmp_total}
use Rattle.format_fields.proofs.FieldLaws.{hash_reads}
use Rattle.status_cache.specs.declared.recent.Mark.{Mark}
use Rattle.status_cache.specs.Recent.{Ascends, IsRecent, max_marks}
use Rattle.snapshot_codec.specs.declared.fault.SnapshotFault.{SnapshotFault}
use Rattle.snapshot_codec.specs.declared.fault.SnapshotFault.TheVariants.{Truncated, BadField, OutOfOrder}
use Rattle.snapshot_codec.specs.Snapshot.{mark_bytes, marks_bytes}
use Rattle.snapshot_codec.specs.SnapshotReading.{count_at, name_after, mark_at, marks_at}
use Rattle.format_fields.proofs.Sized.{sized_reads, IsCount, count_fits, count_le}
use Rattle.snapshot_codec.proofs.Ordered.{IsNext, AllAfter-weaker, AllAfter-both, sorted-from_next, next-from_sorted, pairs-from_sorted, sorted-from_pairs}

pub count_reads : (refusal : ℕ → SnapshotFault) (most total : ℕ) → Reads (count_at refusal most total) (to_le_bytes w32) (IsCount most)
count_reads refusal most total = read_if_reads refusal (λ n. nat_le n most) total (u32_reads Truncated total)

abbrev itself : Hash32 → Hash32
itself name = name

abbrev NameFits : List Hash32 → Hash32 → Type 0
NameFits before name = IsHash name × IsNext itself {cmp = hash_cmp} hash_cmp_total before name

name_reads : (total : ℕ) (before : List Hash32) → Reads (name_after total before) hash_bytes (NameFits before)
unfolding name_after
name_reads total before = read_if_reads OutOfOrder _ total (hash_reads Truncated total)

map_itself : (names : List Hash32) → map itself names ≡ names
map_itself [] = refl
map_itself (name ∷ names) = ap (λ (l : List Hash32). name ∷ l) (map_itself names)

names_ascend : (names : List Hash32) → AllAfter NameFits [] names → Ascends names
names_ascend names all =
    pairs-from_sorted hash_cmp names
    (subst (IsStrictlySortedBy hash_cmp) (map_itself names)
    (sorted-from_next itself hash_cmp_total names (AllAfter-weaker NameFits _ (λ before name h. h.1) [] names all)))

names_hashes : (names : List Hash32) → AllAfter NameFits [] names → AllByRecursion IsHash names
names_hashes names all = AllAfter-all IsHash [] names (AllAfter-weaker NameFits (λ _ name. IsHash name) (λ before name h. h.0) [] names all)

names_fit : (names : List Hash32) → AllByRecursion IsHash names → Ascends names → AllAfter NameFits [] names
names_fit names hashes ascends =
    AllAfter-both (λ _ name. IsHash name) _ [] names (all-AllAfter IsHash [] names hashes)
    (next-from_sorted itself hash_cmp_total names (subst (IsStrictlySortedBy hash_cmp) (sym (map_itself names)) (sorted-from_pairs hash_cmp names ascends)))

pub record MarkFits (mark : Mark) : Type 0 where
  pub hash : IsHash mark.hash
  pub few : length mark.messages ≤ max_transactions
  pub names : AllByRecursion IsHash mark.messages
  pub ascends : Ascends mark.messages

mark_again : (total : ℕ) (mark : Mark) (rest : List ℕ) → MarkFits mark → mark_at total (mark_bytes mark ++ rest) ≡ Ok (mark, rest)
unfolding mark_at
mark_again total m rest fits =
    let names = flat_map hash_bytes m.messages ++ rest in
    let counted = to_le_bytes w32 (length m.messages) ++ names in
    let front : mark_bytes m ++ rest ≡ hash_bytes m.hash ++ counted =
    append_assoc (hash_bytes m.hash ++ to_le_bytes w32 (length m.messages)) (flat_map hash_bytes m.messages) rest ∙ append_assoc (hash_bytes m.hash) (to_le_bytes w32 (length m.messages)) names in
    subst (λ (b : List ℕ). mark_at total b ≡ Ok (m, rest)) (sym front)
    (rw (
      (hash_reads Truncated total).again m.hash counted fits.hash,
      (count_reads BadField max_transactions total).again (length m.messages) names (count_fits max_transactions (length m.messages) (lit< tt) fits.few),
      (many_after_reads (name_reads total) (length m.messages)).again m.messages rest (refl, names_fit m.messages fits.names fits.ascends),
    ) refl)

mark_takes : (total : ℕ) (bytes : List ℕ) (mark : Mark) (rest : List ℕ) → IsBytes bytes → mark_at total bytes ≡ Ok (mark, rest) → MarkFits mark × (bytes ≡ mark_bytes mark ++ rest)
unfolding mark_at
mark_takes total bytes mark rest are h =
    by_taking (hash_reads Truncated total) _ bytes (mark, rest) are h (λ hash r1 f1 e1 b1 g1.
    by_taking (count_reads BadField max_transactions total) _ r1 (mark, rest) b1 g1 (λ count r2 f2 e2 b2 g2.
    by_taking (many_after_reads (name_reads total) count) _ r2 (mark, rest) b2 g2 (λ names r3 f3 e3 b3 g3.
    let p = ok_parts _ _ _ _ g3 in
    let counted : r1 ≡ to_le_bytes w32 (length names) ++ r2 = e2 ∙ ap (λ n. to_le_bytes w32 n ++ r2) (sym f3.0) in
    let to_names = follows (hash_bytes hash) (to_le_bytes w32 (length names)) r2 e1 counted in
    let all = follows (hash_bytes hash ++ to_le_bytes w32 (length names)) (flat_map hash_bytes names) rest to_names (onward (flat_map hash_bytes names) e3 p.1) in
    subst (λ (v : Mark). MarkFits v × (bytes ≡ mark_bytes v ++ rest)) p.0
    (record { hash = f1; few = subst (λ n. n ≤ max_transactions) (sym f3.0) (count_le max_transactions count f2); names = names_hashes names f3.1; ascends = names_ascend names f3.1 }, all))))

mark_reads : (total : ℕ) → Reads (mark_at total) mark_bytes MarkFits
mark_reads total = record { again = mark_again total; takes = mark_takes total }

pub record MarksFit (marks : List Mark) : Type 0 where
  pub few : length marks ≤ max_marks
  pub each : AllByRecursion MarkFits marks

marks_again : (total : ℕ) (marks : List Mark) (rest : List ℕ) → MarksFit marks → marks_at total (marks_bytes marks ++ rest) ≡ Ok (marks, rest)
unfolding marks_at
marks_again total marks rest fits =
    (sized_reads length (count_reads BadField max_marks total) (λ n. many_reads (mark_reads total) n)).again marks rest (count_fits max_marks (length marks) (lit< tt) fits.few, fits.each)

marks_takes : (total : ℕ) (bytes : List ℕ) (marks : List Mark) (rest : List ℕ) → IsBytes bytes → marks_at total bytes ≡ Ok (marks, rest) → MarksFit marks × (bytes ≡ marks_bytes marks ++ rest)
unfolding marks_at
marks_takes total bytes marks rest are h =
    let t = (sized_reads length (count_reads BadField max_marks total) (λ n. many_reads (mark_reads total) n)).takes bytes marks rest are h in
    (record { few = count_le max_marks (length marks) t.0.0; each = t.0.1 }, t.1)

pub marks_reads : (total : ℕ) → Reads (marks_at total) marks_bytes MarksFit
marks_reads total = record { again = marks_again total; takes = marks_takes total }

-- marks that are read may be those of a chain
pub recent-from_fits : (marks : List Mark) → MarksFit marks → IsRecent marks
recent-from_fits marks fits =
    let each = All-from_recursion MarkFits marks fits.each in
    record { few = fits.few; ascending = λ k d lt. (each k d lt).ascends }

pub marks_are_recent : (total : ℕ) (bytes : List ℕ) (marks : List Mark) (rest : List ℕ) → IsBytes bytes → marks_at total bytes ≡ Ok (marks, rest) → IsRecent marks
marks_are_recent total bytes marks rest are h = recent-from_fits marks ((marks_reads total).takes bytes marks rest are h).0

pub fits-from_recent : (marks : List Mark) → IsRecent marks
    → All (λ mark. length mark.messages ≤ max_transactions) marks → All (λ mark. IsHash mark.hash) marks
    → All (λ mark. All IsHash mark.messages) marks → MarksFit marks
fits-from_recent marks recent few hashes names = record {
  few = recent.few;
  each = recursion_from_All MarkFits marks (λ k d lt. record { hash = hashes k d lt; few = few k d lt; names = recursion_from_All IsHash _ (names k d lt); ascends = recent.ascending k d lt });
}

-- marks that are taken from the end of a list and put in front of another

all_last : (P : Mark → Type 0) (before : List Mark) (mark : Mark) (after : List Mark) → AllByRecursion P ((before ++ mark ∷ []) ++ after) → P mark
all_last P [] mark after all = all.0
all_last P (m ∷ before) mark after all = all_last P before mark after all.1

together : (all marks before recent : List Mark) (mark : Mark) → marks ≡ before ++ mark ∷ [] → marks ++ recent ≡ all → (before ++ mark ∷ []) ++ recent ≡ all
together all marks before recent mark taken split = ap (λ (l : List Mark). l ++ recent) (sym taken) ∙ split

pub taken_ascends : (all marks before recent : List Mark) (mark : Mark) → IsRecent all → marks ≡ before ++ mark ∷ [] → marks ++ recent ≡ all → Ascends mark.messages
taken_ascends all marks before recent mark is taken split =
    all_last (λ m. Ascends m.messages) before mark recent
    (subst (AllByRecursion (λ (m : Mark). Ascends m.messages)) (sym (together all marks before recent mark taken split)) (recursion_from_All (λ m. Ascends m.messages) all is.ascending))

pub moved : (all marks before recent new : List Mark) (mark : Mark) → IsRecent all → marks ≡ before ++ mark ∷ [] → marks ++ recent ≡ all → new ≡ take max_marks (mark ∷ recent) → before ++ new ≡ all
moved all marks before recent new mark is taken split put =
    let whole = append_assoc before (mark ∷ []) recent in
    let parts = together all marks before recent mark taken split in
    let few : length (mark ∷ recent) ≤ max_marks = let f = is.few in omega (arith, ap length parts, ap length whole, length-append before (mark ∷ recent)) in
    ap (λ (l : List Mark). before ++ l) (put ∙ take_all max_marks (mark ∷ recent) few) ∙ sym whole ∙ parts

pub fewer : (marks before : List Mark) (mark : Mark) → marks ≡ before ++ mark ∷ [] → length before < length marks
fewer marks before mark taken = omega (arith, ap length taken, length-append before (mark ∷ []))

-- none is left
pub none_left : (r : Option Mark) (marks after recent all : List Mark) → ((mark : Mark) → r ≡ Some mark → ⊥) → IfNone r ((marks ≡ []) × (after ≡ [])) → marks ++ recent ≡ all → recent ≡ all
none_left None marks after recent all some none split = ap (λ (l : List Mark). l ++ recent) (sym none.0) ∙ split
none_left (Some mark) marks after recent all some none split = absurd (some mark refl)
