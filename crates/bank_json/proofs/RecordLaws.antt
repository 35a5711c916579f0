-- Records in JSON: what is written stands for the bytes that it was made of.
use Rattle.std.proofs.Common.{◌≡◌, ◌≤◌, ◌<◌, ◌-◌, ◌^◌, ℕ, List, ◌++◌, length, Result, Ok, Err, true, refl, sym, ap, subst, ◌∙◌, append_assoc, Some, slice_index_or, arith}
use Rattle.std.specs.Prelude.{codes, IsUtf8, nat_le}
use Rattle.std.specs.Int.{w16, w32, w64, to_le_bytes}
use Rattle.std.specs.Str.{is_utf8}
use Rattle.std.specs.List.{AllByRecursion, flat_map}
use Rattle.std.proofs.lemmas.Bool.Decides.{nat_tests}
use Rattle.std.proofs.lemmas.List.Elements.{recursion_from_All}
use Rattle.std.proofs.lemmas.Str.{is_utf8-from_IsUtf8}
use Rattle.spec_base.specs.Bytes.{IsBytes, max_count, sized_bytes}
use Rattle.spec_base.proofs.Binding.{before_bytes, after_bytes, ok_same}
use Rattle.sol_base.specs.Limits.{max_transactions}
use Rattle.message_codec.specs.Wire.{IsCountable, max_wire_len}
use Rattle.tx_report.specs.declared.status.Status.{Status}
use Rattle.tx_report.specs.declared.status.Status.TheVariants.{Good, Failed, Dropped}
use Rattle.tx_report.specs.Causes.{code_of, drop_code_of}
use Rattle.tx_report.specs.Statuses.{IsStatus, part_bytes, status_bytes_of}
use Rattle.tx_report.proofs.CauseLaws.{code_of-fits, drop_code_of-fits}
use Rattle.block_record.specs.declared.fault.RecordFault.{RecordFault}
use Rattle.block_record.specs.declared.block.Entry.{Entry}
use Rattle.block_record.specs.declared.block.Block.{Block}
use Rattle.block_record.specs.Record.{entry_bytes, bytes_of_record, AreCountable, IsRecord}
use Rattle.block_record.specs.RecordReading.{record_of}
use Rattle.block_record.proofs.RecordLaws.{takes}
use Rattle.serde_json.specs.Data.{Data, object, member, no_members}
use Rattle.serde_json.specs.Find.{get}
use Rattle.json_parts.specs.Written.{hex_json, number_json, list_json}
use Rattle.json_parts.specs.Parts.{number_in, digits_in, known_in, member_in, list_in}
use Rattle.json_parts.specs.TransactionJson.{transaction_json, transaction_in}
use Rattle.bank_json.specs.RecordJson.{line_json, status_json, entry_json, record_json, json_by_record, data_of_record, line_in, failure_in, failed_in, dropped_in, status_in, entry_in, heading_in, closing_in, record_in, record_of_data}
use Rattle.json_parts.proofs.Again.{number_again, digits_again, member_again, items_again, list_again}
use Rattle.json_parts.proofs.TransactionLaws.{transaction_again}

-- ---- lines and statuses

record LineFits (line : List ℕ) : Type 0 where
  text : is_utf8 line ≡ true
  short : nat_le (length line) max_count ≡ true

line_again : (line : List ℕ) → LineFits line → IsBytes (sized_bytes line) → line_in (line_json line) ≡ Ok (sized_bytes line)
unfolding line_in
line_again line fits are = rw (fits.text, fits.short) refl

failure_again : (index code detail : ℕ) (d : Data)
    → d ≡ object (member (codes "code") (number_json code)
    (member (codes "detail") (number_json detail) (member (codes "index") (number_json index) no_members)))
    → index ≤ 2 ^ 8 - 1 → code ≤ 2 ^ 16 - 1 → detail ≤ 2 ^ 32 - 1
    → failure_in d ≡ Ok (part_bytes 1 index code detail)
unfolding failure_in known_in
failure_again index code detail d is low mid high = rw is (rw (
  member_again (codes "index") (number_in 0 (2 ^ 8 - 1)) _ (number_json index) index refl (number_again 0 (2 ^ 8 - 1) index (omega arith) low),
  member_again (codes "code") (number_in 0 (2 ^ 16 - 1)) _ (number_json code) code refl (number_again 0 (2 ^ 16 - 1) code (omega arith) mid),
  member_again (codes "detail") (number_in 0 (2 ^ 32 - 1)) _ (number_json detail) detail refl (number_again 0 (2 ^ 32 - 1) detail (omega arith) high),
) refl)

status_again : (status : Status) → IsStatus status → status_in (status_json status) ≡ Ok (status_bytes_of status)
unfolding status_in failed_in dropped_in known_in
status_again Good fits = refl
status_again (Failed index cause detail) fits =
    let failure = object (member (codes "code") (number_json (code_of cause)) (member (codes "detail") (number_json detail) (member (codes "index") (number_json index) no_members))) in
    let code = code_of-fits cause in
    let read = failure_again index (code_of cause) detail failure refl (let t = fits.0 in omega arith) (omega (arith, code)) (let t = fits.1 in omega arith) in
    member_again (codes "failed") failure_in (status_json (Failed index cause detail)) failure (part_bytes 1 index (code_of cause) detail) refl read
status_again (Dropped cause) fits =
    let code = drop_code_of-fits cause in
    rw (member_again (codes "dropped") (number_in 0 (2 ^ 16 - 1)) (status_json (Dropped cause))
    (number_json (drop_code_of cause)) (drop_code_of cause) refl
    (number_again 0 (2 ^ 16 - 1) (drop_code_of cause) (omega arith) (omega (arith, code)))) refl

-- ---- entries

record EntryFits (entry : Entry) : Type 0 where
  wire : length entry.wire ≤ max_wire_len
  status : IsStatus entry.status
  units : entry.units < 2 ^ 64
  fee : entry.fee < 2 ^ 64
  few : IsCountable entry.lines
  lines : AllByRecursion LineFits entry.lines

entry_again : (entry : Entry) → EntryFits entry → IsBytes (entry_bytes entry) → entry_in (entry_json entry) ≡ Ok (entry_bytes entry)
unfolding entry_in known_in
entry_again entry fits are =
    let d = entry_json entry in
    let head = sized_bytes entry.wire ++ status_bytes_of entry.status ++ to_le_bytes w64 entry.units ++ to_le_bytes w64 entry.fee in
    let count = to_le_bytes w16 (length entry.lines) in
    let all = flat_map sized_bytes entry.lines in
    let head_are = before_bytes head (count ++ all) are in
    let to_units = before_bytes (sized_bytes entry.wire ++ status_bytes_of entry.status ++ to_le_bytes w64 entry.units) (to_le_bytes w64 entry.fee) head_are in
    let to_status = before_bytes (sized_bytes entry.wire ++ status_bytes_of entry.status) (to_le_bytes w64 entry.units) to_units in
    let wire_are = after_bytes _ (to_le_bytes w16 (length entry.wire)) entry.wire (before_bytes (sized_bytes entry.wire) (status_bytes_of entry.status) to_status) refl in
    let all_are = after_bytes _ count all (after_bytes _ head (count ++ all) are refl) refl in
    rw (
      member_again (codes "transaction") transaction_in d (transaction_json entry.wire) entry.wire refl (transaction_again entry.wire (let t = fits.wire in omega arith) wire_are),
      member_again (codes "status") status_in d (status_json entry.status) (status_bytes_of entry.status) refl (status_again entry.status fits.status),
      member_again (codes "units") (number_in 0 (2 ^ 64 - 1)) d (number_json entry.units) entry.units refl (number_again 0 (2 ^ 64 - 1) entry.units (omega arith) (let t = fits.units in omega arith)),
      member_again (codes "fee") (number_in 0 (2 ^ 64 - 1)) d (number_json entry.fee) entry.fee refl (number_again 0 (2 ^ 64 - 1) entry.fee (omega arith) (let t = fits.fee in omega arith)),
      member_again (codes "lines") (list_in max_count line_in) d (list_json line_json entry.lines) (length entry.lines, all) refl
          (list_again max_count line_in line_json entry.lines all fits.few (items_again line_in line_json sized_bytes LineFits line_again 0 entry.lines fits.lines all_are)),
    ) (ap Ok (append_assoc head count all))

lines_fit : (lines : List (List ℕ)) → AreCountable lines → ((k : ℕ) (d : List ℕ) → k < length lines → IsUtf8 (slice_index_or lines k d)) → AllByRecursion LineFits lines
lines_fit lines are texts = recursion_from_All LineFits lines (λ k d lt. record { text = is_utf8-from_IsUtf8 _ (texts k d lt); short = let s = are.each k d lt in grind (arith, nat_tests) })

-- ---- records

fields_again : (block : Block) (bytes : List ℕ) → IsRecord bytes block → IsBytes (bytes_of_record block) → record_in (record_json block) ≡ Ok (bytes_of_record block)
unfolding record_in heading_in closing_in known_in
fields_again block bytes is are =
    let d = record_json block in
    let has = is.widths in
    let named = codes "SOLBLCK1" ++ to_le_bytes w64 block.slot in
    let heading = named ++ block.collector.0 ++ block.previous.0 in
    let count = to_le_bytes w32 (length block.entries) in
    let all = flat_map entry_bytes block.entries in
    let front = heading ++ (count ++ all) in
    let burned = to_le_bytes w64 block.burned in
    let collected = to_le_bytes w64 block.collected in
    let state = block.state.0 in
    let hash = block.hash.0 in
    let a1 = before_bytes (front ++ burned ++ collected ++ state) hash are in
    let a2 = before_bytes (front ++ burned ++ collected) state a1 in
    let a4 = before_bytes front burned (before_bytes (front ++ burned) collected a2) in
    let heading_are = before_bytes heading (count ++ all) a4 in
    let all_are = after_bytes _ count all (after_bytes _ heading (count ++ all) a4 refl) refl in
    let collector_are = after_bytes _ named block.collector.0 (before_bytes (named ++ block.collector.0) block.previous.0 heading_are) refl in
    let previous_are = after_bytes _ (named ++ block.collector.0) block.previous.0 heading_are refl in
    let state_are = after_bytes _ (front ++ burned ++ collected) state a1 refl in
    let hash_are = after_bytes _ (front ++ burned ++ collected ++ state) hash are refl in
    let entries_fit = recursion_from_All EntryFits block.entries (λ k e lt. record {
      wire = is.counted.wires k e lt;
      status = has.statuses k e lt;
      units = has.units k e lt;
      fee = has.fees k e lt;
      few = (is.counted.lines k e lt).few;
      lines = lines_fit _ (is.counted.lines k e lt) (is.texts k e lt);
    }) in
    let number_there : (name : List ℕ) (n : ℕ) → get name d ≡ Some (number_json n) → n < 2 ^ 64 → member_in name (number_in 0 (2 ^ 64 - 1)) d ≡ Ok n =
    λ name n there below. member_again name (number_in 0 (2 ^ 64 - 1)) d (number_json n) n there (number_again 0 (2 ^ 64 - 1) n (omega arith) (omega arith)) in
    let joined : heading ++ count ++ all ++ (burned ++ collected ++ state ++ hash) ≡ bytes_of_record block =
    ap (λ (l : List ℕ). l ++ (burned ++ collected ++ state ++ hash)) (append_assoc heading count all)
    ∙ sym (append_assoc front (burned ++ collected ++ state) hash)
    ∙ ap (λ (l : List ℕ). l ++ hash) (sym (append_assoc front (burned ++ collected) state))
    ∙ ap (λ (l : List ℕ). l ++ state ++ hash) (sym (append_assoc front burned collected)) in
    rw (
      number_there (codes "slot") block.slot refl has.slot,
      member_again (codes "collector") (digits_in 32) d (hex_json block.collector.0) block.collector.0 refl (digits_again 32 block.collector.0 has.collector collector_are),
      member_again (codes "previous") (digits_in 32) d (hex_json block.previous.0) block.previous.0 refl (digits_again 32 block.previous.0 has.previous previous_are),
      member_again (codes "entries") (list_in max_transactions entry_in) d (list_json entry_json block.entries) (length block.entries, all) refl
          (list_again max_transactions entry_in entry_json block.entries all is.counted.entries
          (items_again entry_in entry_json entry_bytes EntryFits entry_again 0 block.entries entries_fit
          all_are)),
      number_there (codes "burned") block.burned refl has.burned,
      number_there (codes "collected") block.collected refl has.collected,
      member_again (codes "state") (digits_in 32) d (hex_json state) state refl (digits_again 32 state has.state state_are),
      member_again (codes "hash") (digits_in 32) d (hex_json hash) hash refl (digits_again 32 hash has.hash hash_are),
    ) (ap Ok joined)

all_again : (bytes : List ℕ) (block : Block) → IsBytes bytes → record_of bytes ≡ Ok block → record_of_data (record_json block) ≡ Ok bytes
unfolding record_of_data
all_again bytes block are read =
    let is = takes bytes block are read in
    let spelled = fields_again block bytes is (subst IsBytes is.spelled are) ∙ ap Ok (sym is.spelled) in
    rw (spelled, read) refl

pub records_again : (bytes : List ℕ) (d : Data) → IsBytes bytes → data_of_record bytes ≡ Ok d → record_of_data d ≡ Ok bytes
unfolding data_of_record
records_again bytes d are shown = by_record (record_of bytes) refl shown
  where
    by_record : (r : Result Block RecordFault) → record_of bytes ≡ r → json_by_record r ≡ Ok d → record_of_data d ≡ Ok bytes
    by_record (Ok block) read h = subst (λ (e : Data). record_of_data e ≡ Ok bytes) (ok_same _ _ h) (all_again bytes block are read)
    by_record (Err fault) read h = absurd (cc)
