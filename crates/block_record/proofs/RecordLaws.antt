-- Records: what is spelled is read again, and what is read is spelled so.
use Rattle.sol_base.specs.Limits.{max_transactions}
use Rattle.std.proofs.Common.{◌≡◌, ◌<◌, ◌≤◌, ◌^◌, ℕ, List, [], ◌++◌, ◌-◌, length, take, drop, Result, Ok, Err, true, refl, sym, ap, subst, ◌∙◌, append_assoc, lit<, All, arith, length-drop}
use Rattle.std.specs.Prelude.{IfOk, IsUtf8, codes, bytes_eq, nat_le}
use Rattle.std.specs.Int.{w16, w32, w64, to_le_bytes}
use Rattle.std.specs.Str.{is_utf8}
use Rattle.std.specs.List.{AllByRecursion, flat_map}
use Rattle.std.specs.Cmp.Lexicographic.{bytes_decides}
use Rattle.std.proofs.lemmas.Bool.Decides.{nat_tests}
use Rattle.std.proofs.Math.Seq.{take-append_seam}
use Rattle.std.proofs.lemmas.List.{append-nil, length-append, take-append-drop}
use Rattle.std.proofs.lemmas.List.Elements.{All-from_recursion, recursion_from_All}
use Rattle.std.proofs.lemmas.Str.{IsUtf8-from_is_utf8, is_utf8-from_IsUtf8}
use Rattle.spec_base.specs.Bytes.{IsBytes, sized_bytes}
use Rattle.message_codec.specs.Wire.{max_wire_len}
use Rattle.spec_base.specs.Reading.{Gives, place}
use Rattle.spec_base.proofs.Binding.{bind_ok, ok_same, ok_parts, whole_ok, onward, follows}
use Rattle.spec_base.proofs.Formats.{Reads, by_taking, field_reads, u16_reads, u32_reads, u64_reads, read_if_reads, many_reads}
use Rattle.sol_base.specs.Keys.{IsKey, IsHash, key_bytes, hash_bytes}
use Rattle.format_fields.proofs.FieldLaws.{key_reads, hash_reads}
use Rattle.tx_report.specs.Statuses.{IsStatus, status_bytes_of}
use Rattle.tx_report.proofs.StatusLaws.{status_reads}
use Rattle.format_fields.proofs.Sized.{sized_reads, sized_field_reads, IsCount, count_fits, count_le}
use Rattle.block_record.specs.declared.fault.RecordFault.{RecordFault}
use Rattle.block_record.specs.declared.fault.RecordFault.TheVariants.{Truncated, BadField, Trailing}
use Rattle.block_record.specs.declared.block.Entry.{Entry}
use Rattle.block_record.specs.declared.block.Block.{Block}
use Rattle.block_record.specs.declared.block.Front.{Front}
use Rattle.block_record.specs.Record.{bytes_of_lines, entry_bytes, entries_bytes, heading_bytes, front_bytes, end_bytes, block_bytes, bytes_of_record, AreCountable, IsCounted, HasTexts, HasWidths, IsRecord, BeginsWithRecord}
use Rattle.block_record.specs.RecordReading.{Read, is_record_memory, magic_at, wire_len_at, wire_at, text_at, line_at, lines_at, entry_at, entry_count_at, entries_at, block_at, record_of, front_of}
use Rattle.block_record.specs.Laws.{RoundTrip}

-- transactions and lines

abbrev WireLenFits : ℕ → Type 0
WireLenFits n = (n < 2 ^ 16) × (nat_le n max_wire_len ≡ true)

wire_len_reads : (total : ℕ) → Reads (wire_len_at total) (to_le_bytes w16) WireLenFits
unfolding wire_len_at
wire_len_reads total = read_if_reads BadField (λ n. nat_le n max_wire_len) total (u16_reads Truncated total)

wire_reads : (total : ℕ) → Reads (wire_at total) sized_bytes (λ wire. WireLenFits (length wire) × Unit {0})
unfolding wire_at
wire_reads total = sized_reads length (wire_len_reads total) (sized_field_reads Truncated total)

text_reads : (total n : ℕ) → Reads (text_at total n) (λ text. text) (λ text. (length text ≡ n) × (is_utf8 text ≡ true))
unfolding text_at
text_reads total n = read_if_reads BadField is_utf8 total (field_reads Truncated total n)

abbrev LineFits : List ℕ → Type 0
LineFits line = (length line < 2 ^ 16) × (is_utf8 line ≡ true)

line_reads : (total : ℕ) → Reads (line_at total) sized_bytes LineFits
unfolding line_at
line_reads total = sized_reads length (u16_reads Truncated total) (text_reads total)

abbrev LinesFit : List (List ℕ) → Type 0
LinesFit lines = (length lines < 2 ^ 16) × AllByRecursion LineFits lines

lines_reads : (total : ℕ) → Reads (lines_at total) bytes_of_lines LinesFit
unfolding lines_at
lines_reads total = sized_reads length (u16_reads Truncated total) (many_reads (line_reads total))

-- entries

record EntryFits (entry : Entry) : Type 0 where
  wire : WireLenFits (length entry.wire)
  status : IsStatus entry.status
  units : entry.units < 2 ^ 64
  fee : entry.fee < 2 ^ 64
  lines : LinesFit entry.lines

entry_again : (total : ℕ) (entry : Entry) (rest : List ℕ) → EntryFits entry → entry_at total (entry_bytes entry ++ rest) ≡ Ok (entry, rest)
unfolding entry_at
entry_again total e rest fits =
    let lines = bytes_of_lines e.lines ++ rest in
    let fee = to_le_bytes w64 e.fee ++ lines in
    let units = to_le_bytes w64 e.units ++ fee in
    let status = status_bytes_of e.status ++ units in
    let front : entry_bytes e ++ rest ≡ sized_bytes e.wire ++ status =
    append_assoc (sized_bytes e.wire ++ status_bytes_of e.status ++ to_le_bytes w64 e.units ++ to_le_bytes w64 e.fee) (bytes_of_lines e.lines) rest
    ∙ append_assoc (sized_bytes e.wire ++ status_bytes_of e.status ++ to_le_bytes w64 e.units) (to_le_bytes w64 e.fee) lines
    ∙ append_assoc (sized_bytes e.wire ++ status_bytes_of e.status) (to_le_bytes w64 e.units) fee
    ∙ append_assoc (sized_bytes e.wire) (status_bytes_of e.status) units in
    subst (λ (b : List ℕ). entry_at total b ≡ Ok (e, rest)) (sym front)
    (rw (
      (wire_reads total).again e.wire status (fits.wire, tt),
      (status_reads Truncated BadField total).again e.status units fits.status,
      (u64_reads Truncated total).again e.units fee fits.units,
      (u64_reads Truncated total).again e.fee lines fits.fee,
      (lines_reads total).again e.lines rest fits.lines,
    ) refl)

entry_takes : (total : ℕ) (bytes : List ℕ) (entry : Entry) (rest : List ℕ) → IsBytes bytes → entry_at total bytes ≡ Ok (entry, rest) → EntryFits entry × (bytes ≡ entry_bytes entry ++ rest)
unfolding entry_at
entry_takes total bytes entry rest are h =
    by_taking (wire_reads total) _ bytes (entry, rest) are h (λ wire r1 f1 e1 b1 g1.
    by_taking (status_reads Truncated BadField total) _ r1 (entry, rest) b1 g1 (λ status r2 f2 e2 b2 g2.
    by_taking (u64_reads Truncated total) _ r2 (entry, rest) b2 g2 (λ units r3 f3 e3 b3 g3.
    by_taking (u64_reads Truncated total) _ r3 (entry, rest) b3 g3 (λ fee r4 f4 e4 b4 g4.
    by_taking (lines_reads total) _ r4 (entry, rest) b4 g4 (λ lines r5 f5 e5 b5 g5.
    let p = ok_parts _ _ _ _ g5 in
    let to_status = follows (sized_bytes wire) (status_bytes_of status) r2 e1 e2 in
    let to_units = follows (sized_bytes wire ++ status_bytes_of status) (to_le_bytes w64 units) r3 to_status e3 in
    let to_fee = follows (sized_bytes wire ++ status_bytes_of status ++ to_le_bytes w64 units) (to_le_bytes w64 fee) r4 to_units e4 in
    let all = follows (sized_bytes wire ++ status_bytes_of status ++ to_le_bytes w64 units ++ to_le_bytes w64 fee) (bytes_of_lines lines) rest to_fee (onward (bytes_of_lines lines) e5 p.1) in
    subst (λ (v : Entry). EntryFits v × (bytes ≡ entry_bytes v ++ rest)) p.0
    (record { wire = f1.0; status = f2; units = f3; fee = f4; lines = f5 }, all))))))

entry_reads : (total : ℕ) → Reads (entry_at total) entry_bytes EntryFits
entry_reads total = record { again = entry_again total; takes = entry_takes total }

entry_count_reads : (total : ℕ) → Reads (entry_count_at total) (to_le_bytes w32) (IsCount max_transactions)
unfolding entry_count_at
entry_count_reads total = read_if_reads BadField (λ n. nat_le n max_transactions) total (u32_reads Truncated total)

abbrev EntriesFit : List Entry → Type 0
EntriesFit entries = IsCount max_transactions (length entries) × AllByRecursion EntryFits entries

entries_reads : (total : ℕ) → Reads (entries_at total) entries_bytes EntriesFit
unfolding entries_at
entries_reads total = sized_reads length (entry_count_reads total) (many_reads (entry_reads total))

-- blocks

magic_reads : (total : ℕ) → Reads (magic_at total) (λ magic. magic) (λ magic. (length magic ≡ 8) × (bytes_eq magic (codes "SOLBLCK1") ≡ true))
unfolding magic_at
magic_reads total = read_if_reads BadField (λ magic. bytes_eq magic (codes "SOLBLCK1")) total (field_reads Truncated total 8)

record BlockFits (b : Block) : Type 0 where
  slot : b.slot < 2 ^ 64
  collector : IsKey b.collector
  previous : IsHash b.previous
  entries : EntriesFit b.entries
  burned : b.burned < 2 ^ 64
  collected : b.collected < 2 ^ 64
  state : IsHash b.state
  hash : IsHash b.hash

-- the parts up to each field
abbrev to_slot_bytes : ℕ → List ℕ
to_slot_bytes slot = codes "SOLBLCK1" ++ to_le_bytes w64 slot

block_again : (total : ℕ) (b : Block) (rest : List ℕ) → BlockFits b → block_at total (bytes_of_record b ++ rest) ≡ Ok (b, rest)
unfolding block_at
block_again total b rest fits =
    let hash = hash_bytes b.hash ++ rest in
    let state = hash_bytes b.state ++ hash in
    let collected = to_le_bytes w64 b.collected ++ state in
    let burned = to_le_bytes w64 b.burned ++ collected in
    let entries = entries_bytes b.entries ++ burned in
    let previous = hash_bytes b.previous ++ entries in
    let collector = key_bytes b.collector ++ previous in
    let slot = to_le_bytes w64 b.slot ++ collector in
    let a1 = to_slot_bytes b.slot in
    let a2 = a1 ++ key_bytes b.collector in
    let a3 = a2 ++ hash_bytes b.previous in
    let a4 = a3 ++ entries_bytes b.entries in
    let a5 = a4 ++ to_le_bytes w64 b.burned in
    let a6 = a5 ++ to_le_bytes w64 b.collected in
    let front : bytes_of_record b ++ rest ≡ codes "SOLBLCK1" ++ slot =
    append_assoc (a6 ++ hash_bytes b.state) (hash_bytes b.hash) rest ∙ append_assoc a6 (hash_bytes b.state) hash ∙ append_assoc a5 (to_le_bytes w64 b.collected) state
    ∙ append_assoc a4 (to_le_bytes w64 b.burned) collected ∙ append_assoc a3 (entries_bytes b.entries) burned ∙ append_assoc a2 (hash_bytes b.previous) entries
    ∙ append_assoc a1 (key_bytes b.collector) previous ∙ append_assoc (codes "SOLBLCK1") (to_le_bytes w64 b.slot) collector in
    subst (λ (l : List ℕ). block_at total l ≡ Ok (b, rest)) (sym front)
    (rw (
      (magic_reads total).again (codes "SOLBLCK1") slot (refl, refl),
      (u64_reads Truncated total).again b.slot collector fits.slot,
      (key_reads Truncated total).again b.collector previous fits.collector,
      (hash_reads Truncated total).again b.previous entries fits.previous,
      (entries_reads total).again b.entries burned fits.entries,
      (u64_reads Truncated total).again b.burned collected fits.burned,
      (u64_reads Truncated total).again b.collected state fits.collected,
      (hash_reads Truncated total).again b.state hash fits.state,
      (hash_reads Truncated total).again b.hash rest fits.hash,
    ) refl)

block_takes : (total : ℕ) (bytes : List ℕ) (b : Block) (rest : List ℕ) → IsBytes bytes → block_at total bytes ≡ Ok (b, rest) → BlockFits b × (bytes ≡ bytes_of_record b ++ rest)
unfolding block_at
block_takes total bytes b rest are h =
    by_taking (magic_reads total) _ bytes (b, rest) are h (λ magic r0 f0 e0 b0 g0.
    by_taking (u64_reads Truncated total) _ r0 (b, rest) b0 g0 (λ slot r1 f1 e1 b1 g1.
    by_taking (key_reads Truncated total) _ r1 (b, rest) b1 g1 (λ collector r2 f2 e2 b2 g2.
    by_taking (hash_reads Truncated total) _ r2 (b, rest) b2 g2 (λ previous r3 f3 e3 b3 g3.
    by_taking (entries_reads total) _ r3 (b, rest) b3 g3 (λ entries r4 f4 e4 b4 g4.
    by_taking (u64_reads Truncated total) _ r4 (b, rest) b4 g4 (λ burned r5 f5 e5 b5 g5.
    by_taking (u64_reads Truncated total) _ r5 (b, rest) b5 g5 (λ collected r6 f6 e6 b6 g6.
    by_taking (hash_reads Truncated total) _ r6 (b, rest) b6 g6 (λ state r7 f7 e7 b7 g7.
    by_taking (hash_reads Truncated total) _ r7 (b, rest) b7 g7 (λ hash r8 f8 e8 b8 g8.
    let p = ok_parts _ _ _ _ g8 in
    let named : bytes ≡ codes "SOLBLCK1" ++ r0 = e0 ∙ ap (λ (l : List ℕ). l ++ r0) ((bytes_decides magic (codes "SOLBLCK1")).0 f0.1) in
    let c1 = follows (codes "SOLBLCK1") (to_le_bytes w64 slot) r1 named e1 in
    let c2 = follows (to_slot_bytes slot) (key_bytes collector) r2 c1 e2 in
    let c3 = follows (to_slot_bytes slot ++ key_bytes collector) (hash_bytes previous) r3 c2 e3 in
    let c4 = follows (to_slot_bytes slot ++ key_bytes collector ++ hash_bytes previous) (entries_bytes entries) r4 c3 e4 in
    let c5 = follows (to_slot_bytes slot ++ key_bytes collector ++ hash_bytes previous ++ entries_bytes entries) (to_le_bytes w64 burned) r5 c4 e5 in
    let c6 = follows (to_slot_bytes slot ++ key_bytes collector ++ hash_bytes previous ++ entries_bytes entries ++ to_le_bytes w64 burned) (to_le_bytes w64 collected) r6 c5 e6 in
    let c7 = follows (to_slot_bytes slot ++ key_bytes collector ++ hash_bytes previous ++ entries_bytes entries ++ to_le_bytes w64 burned ++ to_le_bytes w64 collected) (hash_bytes state) r7 c6 e7 in
    let all = follows (to_slot_bytes slot ++ key_bytes collector ++ hash_bytes previous ++ entries_bytes entries
    ++ to_le_bytes w64 burned ++ to_le_bytes w64 collected ++ hash_bytes state) (hash_bytes hash) rest c7
    (onward (hash_bytes hash) e8 p.1) in
    subst (λ (v : Block). BlockFits v × (bytes ≡ bytes_of_record v ++ rest)) p.0
    (record { slot = f1; collector = f2; previous = f3; entries = f4; burned = f5; collected = f6; state = f7; hash = f8 }, all))))))))))

-- what reading asks of a block, and what the format and the types say

lines_fit : (lines : List (List ℕ)) → AreCountable lines → All IsUtf8 lines → LinesFit lines
lines_fit lines short texts =
    (let few = short.few in omega arith, recursion_from_All LineFits lines (λ k d lt. (let s = short.each k d lt in omega arith, is_utf8-from_IsUtf8 _ (texts k d lt))))

fits_reading : (b : Block) → IsCounted b → HasTexts b → HasWidths b → BlockFits b
fits_reading b counted texts has = record {
  slot = has.slot;
  collector = has.collector;
  previous = has.previous;
  entries = (
    count_fits max_transactions (length b.entries) (lit< tt) counted.entries,
    recursion_from_All EntryFits b.entries (λ k d lt. record {
      wire = wire_fits _ (counted.wires k d lt);
      status = has.statuses k d lt;
      units = has.units k d lt;
      fee = has.fees k d lt;
      lines = lines_fit _ (counted.lines k d lt) (texts k d lt);
    }),
  );
  burned = has.burned;
  collected = has.collected;
  state = has.state;
  hash = has.hash;
}
  where
    wire_fits : (n : ℕ) → n ≤ max_wire_len → WireLenFits n
    wire_fits n le = (omega arith, grind (arith, nat_tests))

short_lines : (lines : List (List ℕ)) → LinesFit lines → AreCountable lines
short_lines lines fits =
    let each = All-from_recursion LineFits lines fits.1 in
    record { few = let f = fits.0 in omega arith; each = λ k d lt. let s = (each k d lt).0 in omega arith }

counted : (b : Block) → BlockFits b → IsCounted b
counted b fits =
    let each = All-from_recursion EntryFits b.entries fits.entries.1 in
    record { entries = count_le max_transactions (length b.entries) fits.entries.0; wires = λ k d lt. wire_len _ (each k d lt).wire; lines = λ k d lt. short_lines _ (each k d lt).lines }
  where
    wire_len : (n : ℕ) → WireLenFits n → n ≤ max_wire_len
    wire_len n h = let t = h.1 in grind (arith, nat_tests)

texts : (b : Block) → BlockFits b → HasTexts b
texts b fits =
    let each = All-from_recursion EntryFits b.entries fits.entries.1 in
    λ k d lt. let lines = All-from_recursion LineFits _ (each k d lt).lines.1 in λ j e inside. IsUtf8-from_is_utf8 _ (lines j e inside).1

widths : (b : Block) → BlockFits b → HasWidths b
widths b fits =
    let each = All-from_recursion EntryFits b.entries fits.entries.1 in
    record {
      slot = fits.slot;
      collector = fits.collector;
      previous = fits.previous;
      statuses = λ k d lt. (each k d lt).status;
      units = λ k d lt. (each k d lt).units;
      fees = λ k d lt. (each k d lt).fee;
      burned = fits.burned;
      collected = fits.collected;
      state = fits.state;
      hash = fits.hash;
    }

pub again : (bytes : List ℕ) (b : Block) → IsRecord bytes b → record_of bytes ≡ Ok b
unfolding record_of
again bytes b is =
    let read : block_at (length bytes) (bytes_of_record b ++ []) ≡ Ok (b, []) = block_again (length bytes) b [] (fits_reading b is.counted is.texts is.widths) in
    let here : block_at (length bytes) bytes ≡ Ok (b, []) = subst (λ (l : List ℕ). block_at (length bytes) l ≡ Ok (b, [])) (append-nil (bytes_of_record b) ∙ sym is.spelled) read in
    rw here refl

pub takes : (bytes : List ℕ) (b : Block) → IsBytes bytes → record_of bytes ≡ Ok b → IsRecord bytes b
unfolding record_of
takes bytes b are h =
    let a = bind_ok (block_at (length bytes) bytes) _ b h in
    let w = whole_ok Trailing (length bytes) a.0.0 a.0.1 b a.2 in
    let read : block_at (length bytes) bytes ≡ Ok (b, []) = a.1 ∙ same a.0.0 a.0.1 w.0 w.1 in
    let t = block_takes (length bytes) bytes b [] are read in
    record { spelled = t.1 ∙ append-nil (bytes_of_record b); counted = counted b t.0; texts = texts b t.0; widths = widths b t.0 }
  where
    same : (x : Block) (rest : List ℕ) → rest ≡ [] → x ≡ b → (let l : Read Block = Ok (x, rest) in l) ≡ Ok (b, [])
    same x rest e f = cc

pub is_found : (bytes : List ℕ) (result : Result Block RecordFault) → IsBytes bytes → Gives is_record_memory (λ v. v) result (record_of bytes) → IfOk result (λ b. IsRecord bytes b)
is_found bytes (Ok b) are h = takes bytes b are h
is_found bytes (Err e) are h = tt

pub is_only : (bytes : List ℕ) (result : Result Block RecordFault)
    → Gives is_record_memory (λ v. v) result (record_of bytes) → (b : Block) → IsRecord bytes b
    → Gives is_record_memory (λ v. v) result (Ok b)
is_only bytes result h b is = subst (Gives is_record_memory (λ v. v) result) (again bytes b is) h

pub round_trips : RoundTrip
round_trips b fits are has = again (bytes_of_record b) b (record { spelled = refl; counted = fits; texts = are; widths = has })

-- ---- a record with other bytes after it
pub front_takes : (bytes : List ℕ) (front : Front) → IsBytes bytes → front_of bytes ≡ Ok front → BeginsWithRecord bytes front
unfolding front_of
front_takes bytes front are h =
    let a = bind_ok (block_at (length bytes) bytes) _ front h in
    let t = block_takes (length bytes) bytes a.0.0 a.0.1 are a.1 in
    subst (BeginsWithRecord bytes) (ok_same _ _ a.2) (begins a.0.0 a.0.1 t.0 t.1)
  where
    begins : (b : Block) (rest : List ℕ) → BlockFits b → bytes ≡ bytes_of_record b ++ rest → BeginsWithRecord bytes (record { block = b; length = place (length bytes) rest })
    begins b rest fits split =
        let e : place (length bytes) rest ≡ length (bytes_of_record b) = omega (arith, ap length split, length-append (bytes_of_record b) rest) in
        let text : take (place (length bytes) rest) bytes ≡ bytes_of_record b = ap (λ n. take n bytes) e
        ∙ ap (λ (l : List ℕ). take (length (bytes_of_record b)) l) split
        ∙ take-append_seam (bytes_of_record b) rest in
        record {
          within = omega arith;
          is = record { spelled = text; counted = counted b fits; texts = texts b fits; widths = widths b fits };
        }

pub front_again : (bytes : List ℕ) (front : Front) → BeginsWithRecord bytes front → front_of bytes ≡ Ok front
unfolding front_of
front_again bytes front begins =
    let rest = drop front.length bytes in
    let is = begins.is in
    let read : block_at (length bytes) (bytes_of_record front.block ++ rest)
    ≡ Ok (front.block, rest) = block_again (length bytes) front.block rest
    (fits_reading front.block is.counted is.texts is.widths) in
    let split : bytes_of_record front.block ++ rest ≡ bytes = ap (λ (l : List ℕ). l ++ rest) (sym is.spelled) ∙ take-append-drop front.length bytes in
    let here : block_at (length bytes) bytes ≡ Ok (front.block, rest) = subst (λ (l : List ℕ). block_at (length bytes) l ≡ Ok (front.block, rest)) split read in
    let long : length bytes - length rest ≡ front.length = let t = begins.within in omega (arith, length-drop front.length bytes) in
    rw here (ap (λ n. let r : Result Front RecordFault = Ok (record { block = front.block; length = n }) in r) long)

pub front_is_found : (bytes : List ℕ) (result : Result Front RecordFault) → IsBytes bytes
    → Gives is_record_memory (λ v. v) result (front_of bytes)
    → IfOk result (λ front. BeginsWithRecord bytes front)
front_is_found bytes (Ok front) are h = front_takes bytes front are h
front_is_found bytes (Err e) are h = tt

pub front_is_only : (bytes : List ℕ) (result : Result Front RecordFault)
    → Gives is_record_memory (λ v. v) result (front_of bytes) → (front : Front) → BeginsWithRecord bytes front
    → Gives is_record_memory (λ v. v) result (Ok front)
front_is_only bytes result h front begins = subst (Gives is_record_memory (λ v. v) result) (front_again bytes front begins) h

-- ---- the hash in parts
-- the entries stand behind the heading
pub front_is : (b : Block) → heading_bytes b.slot b.collector b.previous (length b.entries) ++ flat_map entry_bytes b.entries ≡ front_bytes b
front_is b = append_assoc (codes "SOLBLCK1" ++ to_le_bytes w64 b.slot ++ key_bytes b.collector ++ hash_bytes b.previous) (to_le_bytes w32 (length b.entries)) (flat_map entry_bytes b.entries)

-- what stands between the entries and the block hash, behind the front
pub block_ends : (b : Block) → front_bytes b ++ end_bytes b.burned b.collected b.state ≡ block_bytes b
block_ends b =
    sym (append_assoc (front_bytes b ++ to_le_bytes w64 b.burned) (to_le_bytes w64 b.collected) (hash_bytes b.state)
    ∙ append_assoc (front_bytes b) (to_le_bytes w64 b.burned) (to_le_bytes w64 b.collected ++ hash_bytes b.state)
    ∙ ap (λ (l : List ℕ). front_bytes b ++ l) (sym (append_assoc (to_le_bytes w64 b.burned) (to_le_bytes w64 b.collected) (hash_bytes b.state))))
