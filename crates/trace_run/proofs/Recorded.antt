-- What was seen of transactions is what the record of their block says.
use Rattle.std.proofs.Common.{◌≡◌, ◌∙◌, ◌<◌, ◌∷◌, [], ℕ, List, length, map, All, refl, ap, sym, subst, arith}
use Rattle.std.specs.Prelude.{IfOk, slice_get, Some, None, option_map, Result, Ok, Err}
use Rattle.std.specs.List.{range_with_len}
use Rattle.std.proofs.lemmas.List.{length-map}
use Rattle.std.proofs.lemmas.List.Elements.{All-weaker}
use Rattle.std.proofs.lemmas.List.FromFn.{get_or-map-range_with_len, length-map-range_with_len}
use Rattle.std.proofs.lemmas.Option.{slice_get-map, slice_get-get_or, slice_get_within}
use Rattle.sol_base.specs.declared.memory.OutOfMemory.{OutOfMemory}
use Rattle.tx_report.specs.declared.outcome.Outcome.{Outcome}
use Rattle.account_store.specs.State.{at}
use Rattle.snapshot_codec.specs.declared.snapshot.Snapshot.{Snapshot}
use Rattle.snapshot_codec.specs.declared.batch.Batch.{Batch}
use Rattle.block_record.specs.declared.block.Entry.{Entry}
use Rattle.admission.specs.declared.chosen.Admitted.{Admitted}
use Rattle.admission.specs.declared.chosen.Chosen.{Chosen}
use Rattle.admission.specs.Admission.{admitted}
use Rattle.bank_law.specs.Serial.{result}
use Rattle.bank_core.specs.Ends.{serial_outcomes}
use Rattle.tx_exec.specs.AdmittedBlock.{job_of}
use Rattle.block_end.specs.Blocks.{entries_of}
use Rattle.block_run.specs.declared.watching.Seen.{Seen}
use Rattle.block_run.specs.Blocks.{block_result, closed, start_in}
use Rattle.block_run.specs.SerialRun.{serial_run, told_in}
use Rattle.trace_run.specs.declared.run.Sought.{Sought}
use Rattle.trace_run.specs.declared.run.Traced.{Traced}
use Rattle.trace_run.specs.declared.run.Traced.TheVariants.{Ran, Refused as NotRun, Absent}
use Rattle.trace_run.specs.Sought.{wanted_in}
use Rattle.trace_run.specs.Traced.{IsRecorded, IsSerialIn, IsTraced, IsTracedOf, Told, told_by_outcome, told_in_entry}

-- the entries of a block say what the outcomes say
entries_tell : (wires : List (List ℕ)) (order : List Chosen) (outcomes : List Outcome) → length outcomes ≡ length order
    → map told_in_entry (entries_of wires order outcomes) ≡ map told_by_outcome outcomes
entries_tell wires [] [] same = refl
entries_tell wires [] (o ∷ os) same = absurd (omega (arith, same))
entries_tell wires (t ∷ ts) [] same = absurd (omega (arith, same))
entries_tell wires (t ∷ ts) (o ∷ os) same = ap (λ (rest : List Told). told_by_outcome o ∷ rest) (entries_tell wires ts os (omega (arith, same)))

-- and so does the entry of a position
entry_tells : (entries : List Entry) (n : ℕ) (run : ℕ → Outcome) (i : ℕ) (entry : Entry)
    → map told_in_entry entries ≡ map told_by_outcome (map run (range_with_len 0 n))
    → slice_get entries i ≡ Some entry → told_in_entry entry ≡ told_by_outcome (run i)
entry_tells entries n run i entry same here =
    let runs = map run (range_with_len 0 n) in
    let mine : slice_get (map told_in_entry entries) i ≡ Some (told_in_entry entry) = slice_get-map told_in_entry entries i ∙ ap (option_map told_in_entry) here in
    let theirs : slice_get (map told_by_outcome runs) i ≡ Some (told_in_entry entry) = sym (ap (λ (xs : List Told). slice_get xs i) same) ∙ mine in
    let within : i < length (map told_by_outcome runs) = slice_get_within (map told_by_outcome runs) i (told_in_entry entry) theirs in
    let few : i < n = omega (arith, within, length-map runs told_by_outcome, length-map-range_with_len run 0 n) in
    let more : i < length runs = omega (arith, few, length-map-range_with_len run 0 n) in
    let at_i : slice_get runs i ≡ Some (run i) = slice_get-get_or runs i (run 0) more ∙ ap (λ (o : Outcome). Some o) (get_or-map-range_with_len run 0 n i i (run 0) few (omega arith)) in
    let told : slice_get (map told_by_outcome runs) i ≡ Some (told_by_outcome (run i)) = slice_get-map told_by_outcome runs i ∙ ap (option_map told_by_outcome) at_i in
    let both : Some (told_in_entry entry) ≡ Some (told_by_outcome (run i)) = sym theirs ∙ told in
    cc

-- a transaction that was seen, by what it comes to in the serial run
seen_recorded : (s : Snapshot) (batch : Batch) (seen : Seen)
    → IsSerialIn s batch.slot (admitted (start_in s) batch.wires) seen → IsRecorded (block_result s batch).block seen
unfolding block_result closed serial_run
seen_recorded s batch seen is entry here =
    let order = (admitted (start_in s) batch.wires).order in
    let job = job_of (told_in s batch.slot order) in
    let many : length (serial_outcomes job (at s.accounts)) ≡ length order = length-map-range_with_len (result job (at s.accounts)) 0 (length order) in
    entry_tells (entries_of batch.wires order (serial_outcomes job (at s.accounts))) (length order) (result job (at s.accounts)) seen.position entry
    (entries_tell batch.wires order (serial_outcomes job (at s.accounts)) many) here
    ∙ ap told_by_outcome (sym is)

-- what came of those that are admitted is what came of the batch
traced : (s : Snapshot) (batch : Batch) (a : Admitted) (sought : Sought) (t : Traced)
    → a ≡ admitted (start_in s) batch.wires → IsTracedOf s batch.slot a sought t → IsTraced s batch sought t
unfolding block_result
traced s batch a sought (Ran watched refused) same is = (
  is.0 ∙ ap (λ (x : Admitted). x.refused) same,
  All-weaker (IsSerialIn s batch.slot (admitted (start_in s) batch.wires)) (IsRecorded (block_result s batch).block)
      (seen_recorded s batch) watched.seen
      (subst (λ (x : Admitted). All (IsSerialIn s batch.slot x) watched.seen) same is.1),
)
traced s batch a sought (NotRun one) same is = subst (λ (x : Admitted). wanted_in x.order sought ≡ None) same is
traced s batch a sought Absent same is = subst (λ (x : Admitted). wanted_in x.order sought ≡ None) same is

pub traced_result : (s : Snapshot) (batch : Batch) (a : Admitted) (sought : Sought) (r : Result Traced OutOfMemory)
    → a ≡ admitted (start_in s) batch.wires → IfOk r (IsTracedOf s batch.slot a sought) → IfOk r (IsTraced s batch sought)
traced_result s batch a sought (Ok t) same is = traced s batch a sought t same is
traced_result s batch a sought (Err e) same is = is
