-- Batches: what is spelled is read again, and what is read is spelled so.
use Rattle.sol_base.specs.Limits.{max_transactions}
use Rattle.std.proofs.Common.{◌≡◌, ◌<◌, ◌^◌, ℕ, List, [], ◌++◌, length, Result, Ok, Err, true, refl, sym, ap, subst, ◌∙◌, append_assoc, lit<, nat_lt, arith}
use Rattle.std.specs.Prelude.{IfOk, codes, bytes_eq, nat_le}
use Rattle.std.specs.Int.{w32, w64, to_le_bytes}
use Rattle.std.specs.List.{flat_map, AllByRecursion}
use Rattle.std.specs.Cmp.Lexicographic.{bytes_decides}
use Rattle.std.proofs.lemmas.Bool.Decides.{nat_tests}
use Rattle.std.proofs.lemmas.List.{append-nil}
use Rattle.std.proofs.lemmas.List.Elements.{All-from_recursion, recursion_from_All}
use Rattle.spec_base.specs.Bytes.{IsBytes, sized_bytes}
use Rattle.spec_base.specs.Reading.{Gives}
use Rattle.spec_base.proofs.Binding.{bind_ok, ok_parts, whole_ok, onward, follows}
use Rattle.spec_base.proofs.Formats.{Reads, by_taking, field_reads, u16_reads, u32_reads, u64_reads, read_if_reads, many_reads}
use Rattle.sol_base.specs.Keys.{IsKey, key_bytes}
use Rattle.format_fields.proofs.FieldLaws.{key_reads}
use Rattle.snapshot_codec.specs.declared.fault.BatchFault.{BatchFault}
use Rattle.snapshot_codec.specs.declared.fault.BatchFault.TheVariants.{Magic, Truncated, TooMany, Trailing, SlotNotLater}
use Rattle.snapshot_codec.specs.declared.batch.Batch.{Batch}
use Rattle.snapshot_codec.specs.Batch.{batch_bytes, IsBatch}
use Rattle.snapshot_codec.specs.BatchReading.{Read, is_batch_memory, magic_at, slot_at, count_at, wire_at, batch_at, batch_of}
use Rattle.snapshot_codec.specs.Laws.{BatchRoundTrip}
use Rattle.format_fields.proofs.Sized.{sized_reads, sized_field_reads, IsCount, count_fits, count_le}

magic_reads : (total : ℕ) → Reads (magic_at total) (λ magic. magic) (λ magic. (length magic ≡ 8) × (bytes_eq magic (codes "SOLBATC1") ≡ true))
unfolding magic_at
magic_reads total = read_if_reads (λ _. Magic) (λ magic. bytes_eq magic (codes "SOLBATC1")) total (field_reads Truncated total 8)

slot_reads : (before total : ℕ) → Reads (slot_at before total) (to_le_bytes w64) (λ slot. (slot < 2 ^ 64) × (nat_lt before slot ≡ true))
unfolding slot_at
slot_reads before total = read_if_reads (λ _. SlotNotLater) (λ slot. nat_lt before slot) total (u64_reads Truncated total)

count_reads : (total : ℕ) → Reads (count_at total) (to_le_bytes w32) (IsCount max_transactions)
unfolding count_at
count_reads total = read_if_reads (λ _. TooMany) (λ n. nat_le n max_transactions) total (u32_reads Truncated total)

wire_reads : (total : ℕ) → Reads (wire_at total) sized_bytes (λ wire. (length wire < 2 ^ 16) × Unit {0})
unfolding wire_at
wire_reads total = sized_reads length (u16_reads Truncated total) (sized_field_reads Truncated total)

record BatchFits (before : ℕ) (b : Batch) : Type 0 where
  slot : (b.slot < 2 ^ 64) × (nat_lt before b.slot ≡ true)
  collector : IsKey b.collector
  few : IsCount max_transactions (length b.wires)
  wires : AllByRecursion (λ wire. (length wire < 2 ^ 16) × Unit {0}) b.wires

batch_again : (before total : ℕ) (b : Batch) (rest : List ℕ) → BatchFits before b → batch_at before total (batch_bytes b ++ rest) ≡ Ok (b, rest)
unfolding batch_at
batch_again before total b rest fits =
    let wires = flat_map sized_bytes b.wires ++ rest in
    let counted = to_le_bytes w32 (length b.wires) ++ wires in
    let collected = key_bytes b.collector ++ counted in
    let front : batch_bytes b ++ rest ≡ codes "SOLBATC1" ++ (to_le_bytes w64 b.slot ++ collected) =
    append_assoc (codes "SOLBATC1" ++ to_le_bytes w64 b.slot ++ key_bytes b.collector ++ to_le_bytes w32 (length b.wires)) (flat_map sized_bytes b.wires) rest
    ∙ append_assoc (codes "SOLBATC1" ++ to_le_bytes w64 b.slot ++ key_bytes b.collector) (to_le_bytes w32 (length b.wires)) wires
    ∙ append_assoc (codes "SOLBATC1" ++ to_le_bytes w64 b.slot) (key_bytes b.collector) counted
    ∙ append_assoc (codes "SOLBATC1") (to_le_bytes w64 b.slot) collected in
    subst (λ (l : List ℕ). batch_at before total l ≡ Ok (b, rest)) (sym front)
    (rw (
      (magic_reads total).again (codes "SOLBATC1") (to_le_bytes w64 b.slot ++ collected) (refl, refl),
      (slot_reads before total).again b.slot collected fits.slot,
      (key_reads Truncated total).again b.collector counted fits.collector,
      (count_reads total).again (length b.wires) wires fits.few,
      (many_reads (wire_reads total) (length b.wires)).again b.wires rest (refl, fits.wires),
    ) refl)

batch_takes : (before total : ℕ) (bytes : List ℕ) (b : Batch) (rest : List ℕ) → IsBytes bytes → batch_at before total bytes ≡ Ok (b, rest) → BatchFits before b × (bytes ≡ batch_bytes b ++ rest)
unfolding batch_at
batch_takes before total bytes b rest are h =
    by_taking (magic_reads total) _ bytes (b, rest) are h (λ magic r1 f1 e1 b1 g1.
    by_taking (slot_reads before total) _ r1 (b, rest) b1 g1 (λ slot r2 f2 e2 b2 g2.
    by_taking (key_reads Truncated total) _ r2 (b, rest) b2 g2 (λ collector r3 f3 e3 b3 g3.
    by_taking (count_reads total) _ r3 (b, rest) b3 g3 (λ count r4 f4 e4 b4 g4.
    by_taking (many_reads (wire_reads total) count) _ r4 (b, rest) b4 g4 (λ wires r5 f5 e5 b5 g5.
    let p = ok_parts _ _ _ _ g5 in
    let head = codes "SOLBATC1" ++ to_le_bytes w64 slot in
    let named : bytes ≡ codes "SOLBATC1" ++ r1 = e1 ∙ ap (λ (l : List ℕ). l ++ r1) ((bytes_decides magic (codes "SOLBATC1")).0 f1.1) in
    let counted : r3 ≡ to_le_bytes w32 (length wires) ++ r4 = e4 ∙ ap (λ n. to_le_bytes w32 n ++ r4) (sym f5.0) in
    let to_slot = follows (codes "SOLBATC1") (to_le_bytes w64 slot) r2 named e2 in
    let to_collector = follows head (key_bytes collector) r3 to_slot e3 in
    let to_count = follows (head ++ key_bytes collector) (to_le_bytes w32 (length wires)) r4 to_collector counted in
    let all = follows (head ++ key_bytes collector ++ to_le_bytes w32 (length wires)) (flat_map sized_bytes wires) rest to_count (onward (flat_map sized_bytes wires) e5 p.1) in
    subst (λ (v : Batch). BatchFits before v × (bytes ≡ batch_bytes v ++ rest)) p.0
    (record { slot = f2; collector = f3; few = subst (IsCount max_transactions) (sym f5.0) f4; wires = f5.1 }, all))))))

fits_reading : (before : ℕ) (bytes : List ℕ) (b : Batch) → IsBatch before bytes b → BatchFits before b
fits_reading before bytes b is = record {
  slot = (is.slot, let t = is.later in grind (arith, nat_tests));
  collector = is.collector;
  few = count_fits max_transactions (length b.wires) (lit< tt) is.few;
  wires = recursion_from_All (λ wire. (length wire < 2 ^ 16) × Unit {0}) b.wires (λ k d lt. (let t = is.short k d lt in omega arith, tt));
}

pub again : (before : ℕ) (bytes : List ℕ) (b : Batch) → IsBatch before bytes b → batch_of before bytes ≡ Ok b
unfolding batch_of
again before bytes b is =
    let read : batch_at before (length bytes) (batch_bytes b ++ []) ≡ Ok (b, []) = batch_again before (length bytes) b [] (fits_reading before bytes b is) in
    let here : batch_at before (length bytes) bytes ≡ Ok (b, []) = subst (λ (l : List ℕ). batch_at before (length bytes) l ≡ Ok (b, [])) (append-nil (batch_bytes b) ∙ sym is.spelled) read in
    rw here refl

pub takes : (before : ℕ) (bytes : List ℕ) (b : Batch) → IsBytes bytes → batch_of before bytes ≡ Ok b → IsBatch before bytes b
unfolding batch_of
takes before bytes b are h =
    let a = bind_ok (batch_at before (length bytes) bytes) _ b h in
    let w = whole_ok Trailing (length bytes) a.0.0 a.0.1 b a.2 in
    let read : batch_at before (length bytes) bytes ≡ Ok (b, []) = a.1 ∙ same a.0.0 a.0.1 w.0 w.1 in
    let t = batch_takes before (length bytes) bytes b [] are read in
    let short = All-from_recursion (λ wire. (length wire < 2 ^ 16) × Unit {0}) b.wires t.0.wires in
    record {
      spelled = t.1 ∙ append-nil (batch_bytes b);
      later = later b.slot t.0.slot.1;
      few = count_le max_transactions (length b.wires) t.0.few;
      short = λ k d lt. let s = (short k d lt).0 in omega arith;
      slot = t.0.slot.0;
      collector = t.0.collector;
    }
  where
    same : (x : Batch) (rest : List ℕ) → rest ≡ [] → x ≡ b → (let l : Read Batch = Ok (x, rest) in l) ≡ Ok (b, [])
    same x rest e f = cc

    later : (slot : ℕ) → nat_lt before slot ≡ true → before < slot
    later slot e = grind (arith, nat_tests)

pub is_found : (before : ℕ) (bytes : List ℕ) (result : Result Batch BatchFault) → IsBytes bytes
    → Gives is_batch_memory (λ v. v) result (batch_of before bytes) → IfOk result (λ b. IsBatch before bytes b)
is_found before bytes (Ok b) are h = takes before bytes b are h
is_found before bytes (Err e) are h = tt

pub is_only : (before : ℕ) (bytes : List ℕ) (result : Result Batch BatchFault)
    → Gives is_batch_memory (λ v. v) result (batch_of before bytes) → (b : Batch) → IsBatch before bytes b
    → Gives is_batch_memory (λ v. v) result (Ok b)
is_only before bytes result h b is = subst (Gives is_batch_memory (λ v. v) result) (again before bytes b is) h

pub round_trips : BatchRoundTrip
round_trips before b is = again before (batch_bytes b) b is
