-- From what was admitted to what the calls answer.
use Rattle.std.proofs.Common.{◌≡◌, ◌≤◌, ◌<◌, ◌+◌, ◌∷◌, [], ℕ, Bool, List, length, All, sym, ap, ap₂, subst, ◌∙◌, arith}
use Rattle.std.specs.Prelude.{MatchBool}
use Rattle.std.specs.List.{zip}
use Rattle.std.proofs.lemmas.List.{length-map}
use Rattle.std.proofs.lemmas.List.Elements.{All-head}
use Rattle.std.proofs.lemmas.List.FromFn.{length-map-range_with_len}
use Rattle.std.proofs.lemmas.Slice.Zip.{length-zip}
use Rattle.sol_base.specs.Limits.{max_transactions}
use Rattle.account_store.specs.State.{at}
use Rattle.tx_report.specs.declared.outcome.Outcome.{Outcome}
use Rattle.bank_law.specs.Serial.{result}
use Rattle.bank_core.specs.Ends.{outcomes_at_end, serial_outcomes, state_at_end}
use Rattle.bank_core.specs.declared.origin.Origin.{Origin}
use Rattle.snapshot_codec.specs.declared.batch.Batch.{Batch}
use Rattle.snapshot_codec.specs.declared.snapshot.Snapshot.{Snapshot}
use Rattle.snapshot_codec.specs.Snapshot.{IsReadable}
use Rattle.block_record.specs.declared.block.Block.{Block}
use Rattle.block_record.specs.declared.block.Entry.{Entry}
use Rattle.block_record.specs.declared.block.Listed.{Listed}
use Rattle.admission.specs.declared.chosen.Admitted.{Admitted}
use Rattle.admission.specs.declared.chosen.Chosen.{Chosen}
use Rattle.admission.specs.declared.refusal.Refused.{Refused}
use Rattle.admission.specs.Admission.{admitted, listed}
use Rattle.admission.specs.Batches.{IsParted}
use Rattle.tx_exec.specs.declared.admitted.AdmittedBlock.{AdmittedBlock}
use Rattle.tx_exec.specs.AdmittedBlock.{job_of}
use Rattle.tx_report.specs.Outcomes.{IsSmallOutcome}
use Rattle.block_run.specs.declared.block.BlockResult.{BlockResult}
use Rattle.block_end.specs.declared.block.Chain.{Chain}
use Rattle.block_end.specs.declared.block.Closed.{Closed}
use Rattle.block_end.specs.declared.block.Head.{Head}
use Rattle.block_end.specs.Ending.{Ran}
use Rattle.block_run.specs.SerialRun.{ran, serial_run, told_in}
use Rattle.block_run.specs.Blocks.{before_refused, block_result, closed, head_of, is_halted, listed_result, start_in, wires_of}
use Rattle.block_end.specs.Blocks.{closed_with, entry_of}
use Rattle.block_end.specs.Ending.{AreOf, MayEnd, ran_of}
use Rattle.admission.proofs.PartLaws.{admitted_batches_are_parted, listed_batches_are_parted}
use Rattle.block_run.proofs.Orders.{length-take-least, parted_are_of}

-- ---- one run
-- a core over the accounts of a snapshot, for these transactions
abbrev pub origin_in : Snapshot → ℕ → List Chosen → Origin AdmittedBlock
origin_in s slot order = record { start = s.accounts; told = told_in s slot order }

-- what it ends with is the serial run
pub same_run : (s : Snapshot) (slot : ℕ) (order : List Chosen) (opened origin : Origin AdmittedBlock) (outcomes : List Outcome) → opened ≡ origin_in s slot order
    → origin ≡ opened → outcomes ≡ outcomes_at_end job_of opened → ran_of job_of origin outcomes ≡ serial_run s slot order
unfolding serial_run
same_run s slot order opened origin outcomes is began ended = ap₂ (ran_of job_of) began ended ∙ ap (λ (o : Origin AdmittedBlock). ran_of job_of o (outcomes_at_end job_of o)) is

-- its outcomes are small
pub small_run : (s : Snapshot) (slot : ℕ) (wires : List (List ℕ)) (order : List Chosen)
    (opened : Origin AdmittedBlock) → opened ≡ origin_in s slot order
    → MayEnd wires order (serial_run s slot order) → All IsSmallOutcome (outcomes_at_end job_of opened)
unfolding serial_run
small_run s slot wires order opened is may = subst (λ (o : Origin AdmittedBlock). All IsSmallOutcome (outcomes_at_end job_of o)) (sym is) may.small

-- a block may end with it
pub same_may_end : (wires given : List (List ℕ)) (order chosen : List Chosen) (serial end : Ran) → given ≡ wires → chosen ≡ order → end ≡ serial → MayEnd wires order serial → MayEnd given chosen end
same_may_end wires given order chosen serial end read same is may = rw (read, same, is) may

-- and the block is that of the order
pub same_end : (s : Snapshot) (head : Head) (wires given : List (List ℕ)) (order chosen : List Chosen)
    (chain : Chain) (origin : Origin AdmittedBlock) (outcomes : List Outcome) → given ≡ wires → chosen ≡ order
    → chain ≡ record { limits = s.limits; recent = s.recent }
    → ran_of job_of origin outcomes ≡ serial_run s head.slot order
    → closed_with (record {
      slot = 0;
      limits = chain.limits;
      recent = chain.recent;
      accounts = state_at_end
          job_of origin;
    }) head given chosen (ran_of job_of origin outcomes) ≡ closed s head wires order
unfolding closed
same_end s head wires given order chosen chain origin outcomes read same kept ran_is =
    ap (λ (c : Chain). closed_with (record { slot = 0; limits = c.limits; recent = c.recent; accounts = state_at_end job_of origin }) head given chosen (ran_of job_of origin outcomes)) kept
    ∙ ap (λ (w : List (List ℕ)). closed_with s head w chosen (ran_of job_of origin outcomes)) read ∙ ap₂ (λ (o : List Chosen) (r : Ran). closed_with s head wires o r) same ran_is

-- it has an entry for each transaction
pub entry_each : (s : Snapshot) (head : Head) (wires : List (List ℕ)) (order : List Chosen) → length (closed s head wires order).block.entries ≡ length order
unfolding closed serial_run
entry_each s head wires order =
    let outcomes = serial_outcomes (job_of (told_in s head.slot order)) (at s.accounts) in
    let a = length-map (zip order outcomes) (entry_of wires) in
    let b = length-zip order outcomes in
    let c = length-map-range_with_len (result (job_of (told_in s head.slot order)) (at s.accounts)) 0 (length order) in
    omega (arith, a, b, c)

-- ---- a batch

pub admitted_are_of : (s : Snapshot) (wires : List (List ℕ)) (answer : Admitted) → IsReadable s → length wires ≤ max_transactions → answer ≡ admitted (start_in s) wires → AreOf wires answer.order
admitted_are_of s wires answer readable few is =
    parted_are_of wires answer few (subst (IsParted wires) (sym is) (admitted_batches_are_parted (start_in s) wires))

pub admitted_result : (s : Snapshot) (batch : Batch) (answer : Admitted) (end : Closed) → answer ≡ admitted (start_in s) batch.wires → end ≡ closed s (head_of batch) batch.wires answer.order
    → ◌≡◌ {A = BlockResult} (record { block = end.block; after = end.after; refused = answer.refused }) (block_result s batch)
unfolding block_result
admitted_result s batch answer end is ended =
    ap (λ (e : Closed). let r : BlockResult = record { block = e.block; after = e.after; refused = answer.refused } in r) ended
    ∙ ap (λ (a : Admitted). let e = closed s (head_of batch) batch.wires a.order in let r : BlockResult = record { block = e.block; after = e.after; refused = a.refused } in r) is

-- ---- a list
listed_parted : (s : Snapshot) (wires : List (List ℕ)) (answer : Admitted) → IsReadable s → answer ≡ listed (start_in s) wires → IsParted wires answer
listed_parted s wires answer readable is = subst (IsParted wires) (sym is) (listed_batches_are_parted (start_in s) wires)

pub listed_are_of : (s : Snapshot) (wires : List (List ℕ)) (answer : Admitted) → IsReadable s → length wires ≤ max_transactions → answer ≡ listed (start_in s) wires → AreOf wires answer.order
listed_are_of s wires answer readable few is = parted_are_of wires answer few (listed_parted s wires answer readable is)

-- the head of a block that is run again
abbrev pub head_again : Block → Head
head_again given = record { slot = given.slot; collector = given.collector }

pub listed_is : (s : Snapshot) (given : Block) (wires : List (List ℕ)) (answer : Admitted) (end : Closed) (halted : Bool) → wires ≡ wires_of given → answer ≡ listed (start_in s) wires
    → end ≡ closed s (head_again given) wires (before_refused answer.refused answer.order) → halted ≡ is_halted answer.refused
    → ◌≡◌ {A = Listed} (record { block = end.block; halted = halted }) (listed_result s given)
unfolding listed_result
listed_is s given wires answer end halted read is ended same =
    ap₂ (λ (e : Closed) (h : Bool). let r : Listed = record { block = e.block; halted = h } in r) ended same
    ∙ ap (λ (a : Admitted). let r : Listed = record { block = (closed s (head_again given) wires (before_refused a.refused a.order)).block; halted = is_halted a.refused } in r) is
    ∙ ap (λ (w : List (List ℕ)). let a = listed (start_in s) w
    in let r : Listed = record {
      block =
          (closed s (head_again given) w (before_refused a.refused a.order)).block;
      halted = is_halted a.refused;
    }
    in r) read

-- how many entries there are
cut_by : (wires : List (List ℕ)) (order : List Chosen) (refused : List Refused) (count : ℕ) → length order + length refused ≡ length wires → All (λ one. one.position < length wires) refused
    → count ≡ length (before_refused refused order) → MatchBool (is_halted refused) (count < length wires) (count ≡ length wires)
cut_by wires order [] count all below is = omega (arith, all, is)
cut_by wires order (one ∷ others) count all below is =
    let l = length-take-least one.position order in
    let b = All-head (λ (one : Refused). one.position < length wires) one others below in
    omega (arith, l, b, is)

pub listed_cut : (s : Snapshot) (given : Block) (wires : List (List ℕ)) (answer : Admitted) (end : Closed) (halted : Bool) → IsReadable s → wires ≡ wires_of given → answer ≡ listed (start_in s) wires
    → end ≡ closed s (head_again given) wires (before_refused answer.refused answer.order) → halted ≡ is_halted answer.refused
    → MatchBool halted (length end.block.entries < length given.entries) (length end.block.entries ≡ length given.entries)
listed_cut s given wires answer end halted readable read is ended same =
    let parted = listed_parted s wires answer readable is in
    let entries = ap (λ (e : Closed). length e.block.entries) ended ∙ entry_each s (head_again given) wires (before_refused answer.refused answer.order) in
    let long = ap length read ∙ length-map given.entries (λ (entry : Entry). entry.wire) in
    subst (λ (h : Bool). MatchBool h (length end.block.entries < length given.entries) (length end.block.entries ≡ length given.entries)) (sym same)
    (subst (λ n. MatchBool (is_halted answer.refused) (length end.block.entries < n) (length end.block.entries ≡ n)) long
    (cut_by wires answer.order answer.refused (length end.block.entries) parted.count parted.below entries))
