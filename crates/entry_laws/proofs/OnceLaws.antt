-- A message that was processed is remembered.
use Rattle.std.proofs.Common.{◌≡◌, ◌≢◌, ◌<◌, ◌+◌, ◌||◌, ◌∷◌, [], ℕ, zero, suc, Bool, true, false, not, List, length, map, take, Option, Some, None, Result, Ok, Err, IsOk, is_ok, All, refl, sym, ap, subst, ◌∙◌, arith, lit≤}
use Rattle.std.specs.Prelude.{if◌then◌else◌, slice_get}
use Rattle.std.specs.List.{AllByRecursion, cons_option}
use Rattle.std.proofs.lemmas.List.Elements.{All-from_recursion}
use Rattle.std.proofs.lemmas.List.FromFn.{get_or-map-range_with_len, length-map-range_with_len}
use Rattle.std.proofs.lemmas.Map.Keys.{any_passes_from_place}
use Rattle.std.proofs.lemmas.Option.{slice_get-get_or}
use Rattle.spec_base.specs.Reading.{◌>>=◌, ok_if}
use Rattle.sol_base.specs.declared.key.Hash32.{Hash32}
use Rattle.sol_base.specs.Keys.{same_hash}
use Rattle.sol_base.proofs.KeyLaws.{same_hash-Decides}
use Rattle.message_codec.specs.declared.fault.SanitizeFault.{SanitizeFault}
use Rattle.message_codec.specs.declared.message.Loaded.{Loaded}
use Rattle.message_codec.specs.declared.message.Tx.{Tx}
use Rattle.message_codec.specs.declared.parsed.Parsed.{Parsed}
use Rattle.message_codec.specs.declared.parsed.Parsed.TheVariants.{Good}
use Rattle.message_codec.specs.Parsing.{parsed_of}
use Rattle.message_codec.specs.Roles.{sanitized}
use Rattle.status_cache.specs.declared.recent.Mark.{Mark}
use Rattle.status_cache.specs.Recent.{has_hash, knows, max_marks, processed}
use Rattle.tx_report.specs.declared.cause.DropCause.{DropCause}
use Rattle.tx_report.specs.declared.outcome.Outcome.{Outcome}
use Rattle.tx_report.specs.declared.status.Status.{Status}
use Rattle.tx_report.specs.declared.status.Status.TheVariants.{Good as good_status, Failed, Dropped}
use Rattle.account_store.specs.State.{at}
use Rattle.snapshot_codec.specs.declared.batch.Batch.{Batch}
use Rattle.snapshot_codec.specs.declared.snapshot.Snapshot.{Snapshot}
use Rattle.block_record.specs.declared.block.Entry.{Entry}
use Rattle.admission.specs.declared.chosen.Chosen.{Chosen}
use Rattle.admission.specs.declared.lookups.LookupFault.{LookupFault}
use Rattle.admission.specs.declared.refusal.Refusal.TheVariants.{Sanitize as not_sane, Lookup as not_loaded, UnknownBlockhash, AlreadyProcessed}
use Rattle.admission.specs.Admission.{Start, admitted, as_cause, line, sifted_out, standing_name, standing_names, stands, walk}
use Rattle.admission.specs.Lookups.{load}
use Rattle.admission.proofs.AnswerLaws.{all_run}
use Rattle.admission.proofs.LineLaws.{all_line}
use Rattle.admission.proofs.PartLaws.{all_standing, comes_from}
use Rattle.bank_law.specs.Serial.{result}
use Rattle.bank_core.specs.Ends.{serial_outcomes}
use Rattle.tx_exec.specs.AdmittedBlock.{job_of}
use Rattle.block_end.specs.Blocks.{ascending, mark_of, processed_by, processed_in}
use Rattle.block_end.proofs.Sorting.{ascending_has}
use Rattle.block_run.specs.Blocks.{block_result, closed, start_in}
use Rattle.block_run.specs.SerialRun.{serial_run, told_in}
use Rattle.block_laws.specs.Keeping.{order_of}
use Rattle.block_laws.specs.Laws.{outcome_of}
use Rattle.entry_laws.specs.Entries.{IsEntry}
use Rattle.entry_laws.specs.Once.{MessagesRunOnce, after_blocks}
use Rattle.entry_laws.proofs.EntryLaws.{IsOfEntry, of_entry}

-- ---- the marks
-- a mark at this place has the message
record IsMarked (marks : List Mark) (name : Hash32) (place : ℕ) : Type 0 where
  mark : Mark
  there : slice_get marks place ≡ Some mark
  has : has_hash mark.messages name ≡ true

taken_at : {X : Type 0} (n k : ℕ) (xs : List X) → k < n → slice_get (take n xs) k ≡ slice_get xs k
taken_at zero k xs l = absurd (omega (arith, l))
taken_at (suc n) k [] l = refl
taken_at (suc n) zero (x ∷ xs) l = refl
taken_at (suc n) (suc k) (x ∷ xs) l = taken_at n k xs (omega (arith, l))

recent_is : (s : Snapshot) (batch : Batch) → (block_result s batch).after.recent
    ≡ take max_marks (mark_of (block_result s batch).block.hash (order_of s batch) (serial_outcomes (job_of (told_in s batch.slot (order_of s batch))) (at s.accounts)) ∷ s.recent)
unfolding block_result closed serial_run
recent_is s batch = refl

-- a block more moves it by one place
marked_on : (s : Snapshot) (batch : Batch) (name : Hash32) (place : ℕ) → suc place < max_marks → IsMarked s.recent name place → IsMarked (block_result s batch).after.recent name (suc place)
marked_on s batch name place l is =
    let mark = mark_of (block_result s batch).block.hash (order_of s batch) (serial_outcomes (job_of (told_in s batch.slot (order_of s batch))) (at s.accounts)) in
    record {
      mark = is.mark;
      there = ap (λ (marks : List Mark). slice_get marks (suc place)) (recent_is s batch) ∙ taken_at max_marks (suc place) (mark ∷ s.recent) l ∙ is.there;
      has = is.has;
    }

known_by : (s : Snapshot) (name : Hash32) (place : ℕ) → IsMarked s.recent name place → processed s.recent name ≡ true
known_by s name place is = any_passes_from_place (λ (mark : Mark). has_hash mark.messages name) s.recent place is.mark is.there is.has

known_after : (later : List Batch) (s : Snapshot) (name : Hash32) (place : ℕ) → place + length later < max_marks → IsMarked s.recent name place → processed (after_blocks s later).recent name ≡ true
known_after [] s name place l is = known_by s name place is
known_after (batch ∷ later) s name place l is = known_after later (block_result s batch).after name (suc place) (omega (arith, l)) (marked_on s batch name place (omega (arith, l)) is)

-- ---- the new mark
or_true : (b : Bool) → (b || true) ≡ true
or_true true = refl
or_true false = refl

has_itself : (name : Hash32) (names : List Hash32) → has_hash (name ∷ names) name ≡ true
has_itself name names = ap (λ (b : Bool). b || has_hash names name) ((same_hash-Decides name name).1 refl)

has_later : (o : Option Hash32) (names : List Hash32) (name : Hash32) → has_hash names name ≡ true → has_hash (cons_option o names) name ≡ true
has_later None names name has = has
has_later (Some first) names name has = ap (λ (b : Bool). same_hash first name || b) has ∙ or_true (same_hash first name)

processed_at : (order : List Chosen) (outcomes : List Outcome) (i : ℕ) (t : Chosen) (o : Outcome) → slice_get order i ≡ Some t → slice_get outcomes i ≡ Some o
    → processed_by t.name o.status ≡ Some t.name → has_hash (processed_in order outcomes) t.name ≡ true
processed_at [] outcomes i t o chosen came done = absurd (cc)
processed_at (u ∷ us) [] i t o chosen came done = absurd (cc)
processed_at (u ∷ us) (p ∷ ps) zero t o chosen came done =
    let same : u ≡ t = cc in
    let here : p ≡ o = cc in
    let first : processed_by u.name p.status ≡ Some t.name = ap (λ (x : Chosen). processed_by x.name p.status) same ∙ ap (λ (x : Outcome). processed_by t.name x.status) here ∙ done in
    ap (λ (x : Option Hash32). has_hash (cons_option x (processed_in us ps)) t.name) first ∙ has_itself t.name (processed_in us ps)
processed_at (u ∷ us) (p ∷ ps) (suc i) t o chosen came done = has_later (processed_by u.name p.status) (processed_in us ps) t.name (processed_at us ps i t o chosen came done)

not_dropped : (name : Hash32) (status : Status) → ((cause : DropCause) → status ≢ Dropped cause) → processed_by name status ≡ Some name
not_dropped name good_status other = refl
not_dropped name (Failed index cause detail) other = refl
not_dropped name (Dropped cause) other = absurd (other cause refl)

marked_first : (s : Snapshot) (batch : Batch) (i : ℕ) (entry : Entry) (tx : Tx) (name : Hash32) → IsEntry s batch i entry tx name → ((cause : DropCause) → entry.status ≢ Dropped cause)
    → IsMarked (block_result s batch).after.recent name 0
marked_first s batch i entry tx name e other =
    let of : IsOfEntry s batch i entry tx name = of_entry s batch i entry tx name e in
    let order = order_of s batch in
    let f = result (job_of (told_in s batch.slot order)) (at s.accounts) in
    let outcomes = serial_outcomes (job_of (told_in s batch.slot order)) (at s.accounts) in
    let o : Outcome = outcome_of s batch.slot order i in
    let below : i < length order = of.below in
    let came : slice_get outcomes i ≡ Some o =
    slice_get-get_or outcomes i o (omega (arith, below, length-map-range_with_len f 0 (length order)))
    ∙ ap (λ (x : Outcome). let r : Option Outcome = Some x in r) (get_or-map-range_with_len f 0 (length order) i i o below (omega arith)) in
    let status : entry.status ≡ o.status = ap (λ (x : Entry). x.status) of.is in
    let done : processed_by of.t.name o.status ≡ Some of.t.name = not_dropped of.t.name o.status (λ cause is. other cause (status ∙ is)) in
    let mark = mark_of (block_result s batch).block.hash order outcomes in
    record {
      mark = mark;
      there = ap (λ (marks : List Mark). slice_get marks 0) (recent_is s batch) ∙ taken_at max_marks 0 (mark ∷ s.recent) (let some : 0 < max_marks = lit≤ tt in some);
      has = subst (λ (n : Hash32). has_hash (ascending (processed_in order outcomes)) n ≡ true) of.named
          (ascending_has (processed_in order outcomes) of.t.name ∙ processed_at order outcomes i of.t o of.chosen came done);
    }

-- ---- what is refused
refused_by : (start : Start) (tx : Tx) (name : Hash32) (loaded : Loaded) → processed start.marks name ≡ true → IsOk (sanitized tx start.limits.keys)
    → load start.state tx.message ≡ Ok loaded → knows start.marks tx.message.blockhash ≡ true → stands start tx name ≡ Err AlreadyProcessed
unfolding stands
refused_by start tx name loaded done sane loads known =
    go (sanitized tx start.limits.keys) (load start.state tx.message) (knows start.marks tx.message.blockhash) (processed start.marks name) sane loads known done
  where
    go : (a : Result (Unit {0}) SanitizeFault) (b : Result Loaded LookupFault) (k p : Bool) → IsOk a → b ≡ Ok loaded → k ≡ true → p ≡ true
        → (as_cause not_sane a >>= λ _. as_cause not_loaded b >>= λ l. ok_if k UnknownBlockhash l >>= λ _. ok_if (not p) AlreadyProcessed l) ≡ Err AlreadyProcessed
    go (Err fault) b k p sane loads known done = absurd (cc)
    go (Ok u) (Err fault) k p sane loads known done = absurd (cc)
    go (Ok u) (Ok l) false p sane loads known done = absurd (cc)
    go (Ok u) (Ok l) true false sane loads known done = absurd (cc)
    go (Ok u) (Ok l) true true sane loads known done = refl

never_stands : (start : Start) (tx : Tx) (name : Hash32) → processed start.marks name ≡ true → is_ok (stands start tx name) ≡ false
unfolding stands
never_stands start tx name done = go (sanitized tx start.limits.keys) (load start.state tx.message) (knows start.marks tx.message.blockhash) (processed start.marks name) done
  where
    go : (a : Result (Unit {0}) SanitizeFault) (b : Result Loaded LookupFault) (k p : Bool) → p ≡ true
        → is_ok (as_cause not_sane a >>= λ _. as_cause not_loaded b >>= λ l. ok_if k UnknownBlockhash l >>= λ _. ok_if (not p) AlreadyProcessed l) ≡ false
    go (Err fault) b k p done = refl
    go (Ok u) (Err fault) k p done = refl
    go (Ok u) (Ok l) false p done = refl
    go (Ok u) (Ok l) true false done = absurd (cc)
    go (Ok u) (Ok l) true true done = refl

no_name : (start : Start) (tx : Tx) (name : Hash32) → processed start.marks name ≡ true → standing_name start (Good tx name) ≡ Some name → ⊥
no_name start tx name done named =
    let none : standing_name start (Good tx name) ≡ None = ap (λ (b : Bool). let o : Option Hash32 = if b then Some name else None in o) (never_stands start tx name done) in
    absurd (cc)

-- it is not that message
abbrev IsOther : Hash32 → Chosen → Type 0
IsOther name t = t.name ≢ name

none_stands : (start : Start) (batch : List Parsed) (name : Hash32) → processed start.marks name ≡ true → AllByRecursion (IsOther name) (sifted_out start batch)
none_stands start batch name done = all_standing start batch (IsOther name) (λ n x chosen within here e.
    let from = comes_from start (has_hash (standing_names start (take n batch))) n x chosen e in
    let named : standing_name start (Good chosen.tx chosen.name) ≡ Some chosen.name = ap (standing_name start) (sym from.read) ∙ from.named in
    λ same. no_name start chosen.tx chosen.name (ap (processed start.marks) same ∙ done) named)

none_runs : (start : Start) (wires : List (List ℕ)) (name : Hash32) → processed start.marks name ≡ true → All (λ t. t.name ≢ name) (admitted start wires).order
unfolding admitted
none_runs start wires name done =
    let standing : List Chosen = sifted_out start (map parsed_of wires) in
    All-from_recursion (IsOther name) (walk start.limits (line standing)).order
    (all_run (IsOther name) start.limits (line standing) (all_line (IsOther name) standing (none_stands start (map parsed_of wires) name done)))

pub messages_run_once : MessagesRunOnce
messages_run_once s batch i entry tx name e other later few =
    let after : Snapshot = after_blocks (block_result s batch).after later in
    let done : processed after.recent name ≡ true = known_after later (block_result s batch).after name 0 (omega (arith, few)) (marked_first s batch i entry tx name e other) in
    record {
      known = done;
      refused = λ again loaded sane loads known. refused_by (start_in after) again name loaded done sane loads known;
      never_runs = λ wires. none_runs (start_in after) wires name done;
    }
