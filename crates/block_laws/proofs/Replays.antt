-- A block that is run again comes to itself.
use Rattle.std.proofs.Common.{◌≡◌, ◌+◌, ◌<◌, ◌&&◌, ℕ, Bool, true, false, List, [], ◌∷◌, ◌++◌, length, map, drop, refl, sym, ap, ap₂, subst, ◌∙◌, append_assoc, length-append, arith, nat_lt}
use Rattle.std.specs.Prelude.{slice_get, unwrap_or, ◌==◌, nat_eq}
use Rattle.std.specs.List.{enumerate_from, flat_map, zip}
use Rattle.std.specs.Int.{w64, to_le_bytes}
use Rattle.std.proofs.lemmas.Bool.Decides.{nat_tests}
use Rattle.std.proofs.lemmas.List.{drop_all, get_or_at}
use Rattle.std.proofs.lemmas.List.FromFn.{length-map-range_with_len}
use Rattle.sol_base.specs.declared.key.Hash32.{Hash32}
use Rattle.sol_base.specs.Keys.{hash_bytes, same_hash}
use Rattle.sol_base.proofs.KeyLaws.{same_hash-Decides}
use Rattle.status_cache.specs.Recent.{newest_of}
use Rattle.tx_report.specs.Statuses.{status_bytes_of}
use Rattle.tx_report.specs.declared.outcome.Outcome.{Outcome}
use Rattle.account_store.specs.State.{at}
use Rattle.snapshot_codec.specs.declared.batch.Batch.{Batch}
use Rattle.snapshot_codec.specs.declared.snapshot.Snapshot.{Snapshot}
use Rattle.block_record.specs.declared.block.Block.{Block}
use Rattle.block_record.specs.declared.block.Entry.{Entry}
use Rattle.block_record.specs.declared.block.Listed.{Listed}
use Rattle.block_record.specs.Record.{bytes_of_lines}
use Rattle.admission.specs.declared.chosen.Admitted.{Admitted}
use Rattle.admission.specs.declared.chosen.Chosen.{Chosen}
use Rattle.admission.specs.Admission.{admitted, listed}
use Rattle.admission.specs.Batches.{wire_in}
use Rattle.bank_law.specs.Serial.{result}
use Rattle.tx_exec.specs.AdmittedBlock.{job_of}
use Rattle.block_end.specs.declared.block.Head.{Head}
use Rattle.block_end.specs.Ending.{Ran}
use Rattle.block_run.specs.SerialRun.{serial_run, told_in}
use Rattle.block_end.specs.BlockEnd.{activate_all, share_fees}
use Rattle.block_run.specs.Blocks.{before_refused, block_result, closed, head_of, is_halted, listed_result, start_in, wires_of}
use Rattle.block_end.specs.Blocks.{block_of, entries_of}
use Rattle.block_replay.specs.declared.verdict.Field.{Field}
use Rattle.block_replay.specs.declared.verdict.Field.TheVariants.{Slot, Previous, Status, Units, Fee, Lines, Burned, Collected, State as state_field, Hash}
use Rattle.block_replay.specs.declared.verdict.Verdict.{Verdict}
use Rattle.block_replay.specs.declared.verdict.Verdict.TheVariants.{Match}
use Rattle.block_replay.specs.Verdict.{differences, entries_differences, entry_differences, head_differences, in_hash, in_lines, in_number, in_status, of_block, refused_entry, same_bytes, same_lines, tail_differences, unless, verdict}
use Rattle.block_laws.specs.Again.{all_of, renumbered, wires_in}
use Rattle.block_laws.proofs.Again.{admitted_again}
use Rattle.block_laws.proofs.Alike.{renumbered_run}

-- ---- the entries
entries_again : (wires done : List (List ℕ)) (n : ℕ) (order : List Chosen) (outcomes : List Outcome)
    → n ≡ length done → entries_of (done ++ wires_in wires order) (renumbered n order) outcomes
    ≡ entries_of wires order outcomes
entries_again wires done n [] outcomes count = refl
entries_again wires done n (t ∷ ts) [] count = refl
entries_again wires done n (t ∷ ts) (o ∷ os) count =
    let wire = wire_in wires t.position in
    let here : wire_in (done ++ wire ∷ wires_in wires ts) n ≡ wire = get_or_at done wire (wires_in wires ts) [] n (sym count) in
    let more : entries_of (done ++ wire ∷ wires_in wires ts) (renumbered (n + 1) ts) os ≡ entries_of wires ts os =
    ap (λ (ws : List (List ℕ)). entries_of ws (renumbered (n + 1) ts) os) (sym (append_assoc done (wire ∷ []) (wires_in wires ts)))
    ∙ entries_again wires (done ++ wire ∷ []) (n + 1) ts os (omega (arith, count, length-append done (wire ∷ []))) in
    ap₂ (λ (w : List ℕ) (es : List Entry). let e : Entry = record { wire = w; status = o.status; units = o.units; fee = o.base_paid + o.priority_paid; lines = o.lines } in e ∷ es) here more

wires_back : (wires : List (List ℕ)) (order : List Chosen) (outcomes : List Outcome)
    → length outcomes ≡ length order
    → map (λ (entry : Entry). entry.wire) (entries_of wires order outcomes) ≡ wires_in wires order
wires_back wires [] outcomes count = refl
wires_back wires (t ∷ ts) [] count = absurd (omega (arith, count))
wires_back wires (t ∷ ts) (o ∷ os) count = ap (λ (ws : List (List ℕ)). wire_in wires t.position ∷ ws) (wires_back wires ts os (omega (arith, count)))

-- ---- the block
-- the block of a run, from its entries
block_by : Snapshot → Head → List Entry → Ran → Block
block_by s head entries run =
    let shares = share_fees run.accounts head.collector run.outcomes in
    block_of s head entries shares (activate_all shares.accounts)

module _ (s : Snapshot) (head : Head) (wires : List (List ℕ)) (order : List Chosen) where
  abbrev run : Ran
  run = serial_run s head.slot order

  outcome_each : length run.outcomes ≡ length order
  unfolding serial_run
  outcome_each = length-map-range_with_len (result (job_of (told_in s head.slot order)) (at s.accounts)) 0 (length order)

  block_is : (closed s head wires order).block ≡ block_by s head (entries_of wires order run.outcomes) run
  unfolding closed block_by
  block_is = refl

  entries_are : (closed s head wires order).block.entries ≡ entries_of wires order run.outcomes
  unfolding closed
  entries_are = refl

  head_is : ◌≡◌ {A = Head} (record { slot = (closed s head wires order).block.slot; collector = (closed s head wires order).block.collector }) head
  unfolding closed
  head_is = refl

  pub previous_is : (closed s head wires order).block.previous ≡ newest_of s.recent
  unfolding closed
  previous_is = refl

  slot_is : (closed s head wires order).block.slot ≡ head.slot
  unfolding closed
  slot_is = refl

  pub wires_are : wires_of (closed s head wires order).block ≡ wires_in wires order
  wires_are = ap (map (λ (entry : Entry). entry.wire)) entries_are ∙ wires_back wires order run.outcomes outcome_each

-- transactions alone, with their wires in their order, come to the block that they came to among others
block_again : (s : Snapshot) (head : Head) (wires : List (List ℕ)) (order : List Chosen) → (closed s head (wires_in wires order) (renumbered 0 order)).block ≡ (closed s head wires order).block
block_again s head wires order =
    let same = renumbered_run s head.slot 0 order in
    let entries : entries_of (wires_in wires order) (renumbered 0 order) (run s head (wires_in wires order) (renumbered 0 order)).outcomes ≡ entries_of wires order (run s head wires order).outcomes =
    ap (λ (r : Ran). entries_of (wires_in wires order) (renumbered 0 order) r.outcomes) same
    ∙ entries_again wires [] 0 order (run s head wires order).outcomes refl in
    block_is s head (wires_in wires order) (renumbered 0 order)
    ∙ ap₂ (block_by s head) entries same
    ∙ sym (block_is s head wires order)

module _ (s : Snapshot) (batch : Batch) where
  abbrev order : List Chosen
  order = (admitted (start_in s) batch.wires).order

  abbrev made : Block
  made = (closed s (head_of batch) batch.wires order).block

  listed_by : Head → List (List ℕ) → Admitted → Listed
  listed_by head wires a = record { block = (closed s head wires (before_refused a.refused a.order)).block; halted = is_halted a.refused }

  listed_is : (given : Block) → listed_result s given ≡ listed_by (record { slot = given.slot; collector = given.collector }) (wires_of given) (listed (start_in s) (wires_of given))
  unfolding listed_result listed_by
  listed_is given = refl

  made_again : listed_by (head_of batch) (wires_in batch.wires order) (all_of order) ≡ record { block = made; halted = false }
  unfolding listed_by
  made_again = ap (λ (b : Block). let l : Listed = record { block = b; halted = false } in l) (block_again s (head_of batch) batch.wires order)

  made_is : (block_result s batch).block ≡ made
  unfolding block_result
  made_is = refl

  run_again : listed_result s made ≡ record { block = made; halted = false }
  run_again =
      let wires : wires_of made ≡ wires_in batch.wires order = wires_are s (head_of batch) batch.wires order in
      listed_is made
      ∙ ap (λ (h : Head). listed_by h (wires_of made) (listed (start_in s) (wires_of made))) (head_is s (head_of batch) batch.wires order)
      ∙ ap (λ (ws : List (List ℕ)). listed_by (head_of batch) ws (listed (start_in s) ws)) wires
      ∙ ap (listed_by (head_of batch) (wires_in batch.wires order)) (admitted_again (start_in s) batch.wires)
      ∙ made_again

-- what a batch comes to is what its block comes to when it is run again
pub blocks_run_again : (s : Snapshot) (batch : Batch) → listed_result s (block_result s batch).block ≡ record { block = (block_result s batch).block; halted = false }
blocks_run_again s batch = ap (listed_result s) (made_is s batch) ∙ run_again s batch ∙ ap (λ (b : Block). let l : Listed = record { block = b; halted = false } in l) (sym (made_is s batch))

-- ---- no difference
none_if : (b : Bool) (entry : ℕ) (field : Field) (expected found : List ℕ) → b ≡ true → unless b entry field expected found ≡ []
none_if b entry field expected found e = ap (λ same. unless same entry field expected found) e

same_number : (n : ℕ) → (n == n) ≡ true
same_number n = grind (arith, nat_tests)

both : (a b : Bool) → a ≡ true → b ≡ true → (a && b) ≡ true
both a b x y = rw (x, y) refl

bytes_same : (bytes : List ℕ) → same_bytes bytes bytes ≡ true
bytes_same [] = refl
bytes_same (b ∷ bytes) = both (nat_eq b b) (same_bytes bytes bytes) (same_number b) (bytes_same bytes)

lines_same : (lines : List (List ℕ)) → same_lines lines lines ≡ true
lines_same [] = refl
lines_same (line ∷ lines) = both (same_bytes line line) (same_lines lines lines) (bytes_same line) (lines_same lines)

hash_same : (hash : Hash32) → same_hash hash hash ≡ true
hash_same hash = (same_hash-Decides hash hash).1 refl

-- nothing, and then nothing
neither : (xs ys : List Verdict) → xs ≡ [] → ys ≡ [] → xs ++ ys ≡ []
neither xs ys a b = ap₂ (λ (x y : List Verdict). x ++ y) a b

number_none : (place : ℕ) (field : Field) (n : ℕ) → in_number place field n n ≡ []
number_none place field n = none_if (n == n) place field (to_le_bytes w64 n) (to_le_bytes w64 n) (same_number n)

hash_none : (place : ℕ) (field : Field) (hash : Hash32) → in_hash place field hash hash ≡ []
hash_none place field hash = none_if (same_hash hash hash) place field (hash_bytes hash) (hash_bytes hash) (hash_same hash)

status_none : (place : ℕ) (e : Entry) → in_status place e e ≡ []
status_none place e = none_if (same_bytes (status_bytes_of e.status) (status_bytes_of e.status)) place Status
    (status_bytes_of e.status) (status_bytes_of e.status) (bytes_same (status_bytes_of e.status))

lines_none : (place : ℕ) (e : Entry) → in_lines place e e ≡ []
lines_none place e = none_if (same_lines e.lines e.lines) place Lines (bytes_of_lines e.lines) (bytes_of_lines e.lines) (lines_same e.lines)

entry_same : (n : ℕ) (e : Entry) → entry_differences (n, (e, e)) ≡ []
entry_same n e =
    neither (in_status n e e ++ in_number n Units e.units e.units ++ in_number n Fee e.fee e.fee) (in_lines n e e)
    (neither (in_status n e e ++ in_number n Units e.units e.units) (in_number n Fee e.fee e.fee)
    (neither (in_status n e e) (in_number n Units e.units e.units) (status_none n e) (number_none n Units e.units)) (number_none n Fee e.fee)) (lines_none n e)

entries_same : (n : ℕ) (es : List Entry) → flat_map entry_differences (enumerate_from n (zip es es)) ≡ []
entries_same n [] = refl
entries_same n (e ∷ es) = neither (entry_differences (n, (e, e))) (flat_map entry_differences (enumerate_from (n + 1) (zip es es))) (entry_same n e) (entries_same (n + 1) es)

tail_same : (block : Block) → tail_differences block block ≡ []
tail_same block =
    let burned = in_number of_block Burned block.burned block.burned in
    let collected = in_number of_block Collected block.collected block.collected in
    let state = in_hash of_block state_field block.state block.state in
    neither (burned ++ collected ++ state) (in_hash of_block Hash block.hash block.hash)
    (neither (burned ++ collected) state
    (neither burned collected (number_none of_block Burned block.burned)
    (number_none of_block Collected block.collected)) (hash_none of_block state_field block.state))
    (hash_none of_block Hash block.hash)

head_same : (slot : ℕ) (newest : Hash32) (block : Block) → slot < block.slot → block.previous ≡ newest → head_differences slot newest block ≡ []
head_same slot newest block later same =
    neither (unless (nat_lt slot block.slot) of_block Slot (to_le_bytes w64 slot) (to_le_bytes w64 block.slot)) (in_hash of_block Previous newest block.previous)
    (none_if (nat_lt slot block.slot) of_block Slot (to_le_bytes w64 slot) (to_le_bytes w64 block.slot) (grind (arith, nat_tests)))
    (ap (in_hash of_block Previous newest) same ∙ hash_none of_block Previous newest)

refused_none : (es : List Entry) → refused_entry (length es) (drop (length es) es) ≡ []
refused_none es = ap (refused_entry (length es)) (drop_all (length es) es (omega arith))

itself : (slot : ℕ) (newest : Hash32) (block : Block) → slot < block.slot → block.previous ≡ newest → differences slot newest block block ≡ []
itself slot newest block later same =
    let es = block.entries in
    let rest = refused_entry (length es) (drop (length es) es) in
    neither (head_differences slot newest block ++ entries_differences es es ++ rest) (tail_differences block block)
    (neither (head_differences slot newest block ++ entries_differences es es) rest
    (neither (head_differences slot newest block) (entries_differences es es) (head_same slot newest block later same) (entries_same 0 es)) (refused_none es)) (tail_same block)

pub matches_itself : (slot : ℕ) (newest : Hash32) (block : Block) (halted : Bool) → slot < block.slot
    → block.previous ≡ newest → verdict slot newest block (record { block = block; halted = halted }) ≡ Match
unfolding verdict
matches_itself slot newest block halted later same = ap (λ (ds : List Verdict). unwrap_or (slice_get ds 0) Match) (itself slot newest block later same)

-- the record of a block matches what its entries give when they run again
pub replays_match : (s : Snapshot) (batch : Batch) → s.slot < batch.slot → verdict s.slot (newest_of s.recent) (block_result s batch).block (listed_result s (block_result s batch).block) ≡ Match
replays_match s batch later =
    ap (λ (l : Listed). verdict s.slot (newest_of s.recent) (block_result s batch).block l) (blocks_run_again s batch)
    ∙ ap (λ (b : Block). verdict s.slot (newest_of s.recent) b (record { block = b; halted = false })) (made_is s batch)
    ∙ matches_itself s.slot (newest_of s.recent) (made s batch) false
    (subst (λ n. s.slot < n) (sym (slot_is s (head_of batch) batch.wires (order s batch))) later)
    (previous_is s (head_of batch) batch.wires (order s batch))
