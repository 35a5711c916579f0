-- The record of a block is one that is read.
use Rattle.std.proofs.Common.{◌≡◌, ◌+◌, ◌^◌, ◌≤◌, ◌<◌, ◌==◌, ◌&&◌, ◌∷◌, [], ℕ, Bool, true, false, not, cond, List, length, map, Some, All, IsUtf8, refl, sym, subst, lit≤, arith}
use Rattle.std.specs.List.{AllByRecursion}
use Rattle.std.proofs.lemmas.List.{length-replicate}
use Rattle.std.proofs.lemmas.List.Elements.{All-from_recursion, All-head, recursion_from_All}
use Rattle.std.proofs.lemmas.List.FromFn.{get_or-map-range_with_len, length-map-range_with_len}
use Rattle.sha2.proofs.Facts256.{length-sha256}
use Rattle.sol_base.specs.declared.account.Account.{Account}
use Rattle.sol_base.specs.declared.key.Key.{Key}
use Rattle.sol_base.specs.Keys.{IsHash}
use Rattle.fee_rules.specs.declared.split.FeeSplit.{FeeSplit}
use Rattle.fee_rules.specs.Fees.{split_of}
use Rattle.status_cache.specs.declared.recent.Mark.{Mark}
use Rattle.status_cache.specs.Recent.{newest_of}
use Rattle.tx_report.specs.Statuses.{IsStatus}
use Rattle.tx_report.specs.declared.outcome.Outcome.{Outcome}
use Rattle.account_store.specs.State.{State, at, put}
use Rattle.snapshot_codec.specs.declared.snapshot.Snapshot.{Snapshot}
use Rattle.snapshot_codec.specs.Snapshot.{IsReadable}
use Rattle.block_record.specs.declared.block.Entry.{Entry}
use Rattle.block_record.specs.Record.{HasTexts, HasWidths, IsCounted}
use Rattle.block_record.proofs.RecordLaws.{round_trips}
use Rattle.admission.specs.declared.chosen.Chosen.{Chosen}
use Rattle.admission.specs.Admission.{admitted}
use Rattle.admission.specs.Chosen.{IsChosen}
use Rattle.bank_law.specs.Job.{keys}
use Rattle.bank_law.specs.Serial.{result, serial}
use Rattle.bank_core.specs.Ends.{serial_outcomes}
use Rattle.tx_exec.specs.declared.admitted.AdmittedBlock.{AdmittedBlock}
use Rattle.tx_exec.specs.AdmittedBlock.{block_of as in_block, effects_at, job_of}
use Rattle.tx_exec.specs.Transaction.{transaction}
use Rattle.tx_report.specs.Outcomes.{IsSmallOutcome}
use Rattle.tx_exec.specs.TransactionLaws.{IsOutcomeOf}
use Rattle.tx_exec.proofs.Outcomes.{transaction_outcome}
use Rattle.tx_exec.proofs.Small.{transaction_small}
use Rattle.block_end.specs.declared.block.Head.{Head}
use Rattle.block_end.specs.BlockEnd.{Shares, activate_all, base_fees, may_collect, more, priority_fees, share_fees}
use Rattle.block_run.specs.Blocks.{block_result, closed, head_of, start_in}
use Rattle.block_end.specs.Blocks.{entries_of, entry_of}
use Rattle.block_end.specs.Ending.{AreOf}
use Rattle.block_end.specs.Ending.{Ran}
use Rattle.block_run.specs.SerialRun.{serial_run, told_in}
use Rattle.block_run.proofs.Calls.{admitted_are_of}
use Rattle.block_end.proofs.Closings.{block_counted}
use Rattle.block_laws.proofs.Conserved.{burned_is_all}
use Rattle.block_run.proofs.Positions.{at_position}
use Rattle.block_run.proofs.Runs.{run_may_end}
use Rattle.block_laws.specs.Chain.{RecordsAreRead}
use Rattle.block_laws.specs.Keeping.{order_of}
use Rattle.block_laws.proofs.Keeps.{admitted_fit}
use Rattle.block_laws.proofs.Budgets.{limit_fits}

-- ---- the outcomes
pub record IsWritten (outcome : Outcome) : Type 0 where
  pub texts : AllByRecursion IsUtf8 outcome.lines
  pub status : IsStatus outcome.status
  pub units : outcome.units < 2 ^ 64
  pub small : IsSmallOutcome outcome

module _ (block : AdmittedBlock) (all : All IsChosen block.chosen) (start : State) where
  written : (t : Chosen) → IsChosen t → (vs : List Account) → IsWritten (effects_at (in_block block) (Some t) vs).outcome
  written t is vs =
      let of : IsOutcomeOf t (transaction (in_block block) t vs).outcome = transaction_outcome (in_block block) t vs is in
      let most : t.budget.limit < 2 ^ 64 = limit_fits t.tx.message t.budget is.budgeted in
      let used : (transaction (in_block block) t vs).outcome.units ≤ t.budget.limit = of.units in
      record { texts = of.lines.texts; status = of.status; units = omega (arith, used, most); small = transaction_small (in_block block) t vs is }

  written_at : (i : ℕ) → i < length block.chosen → (vs : List Account) → IsWritten ((job_of block).effects i vs).outcome
  written_at i l vs = at_position block all (λ o. IsWritten (effects_at (in_block block) o vs).outcome) (λ t is. written t is vs) i l

  all_written : All IsWritten (serial_outcomes (job_of block) (at start))
  all_written i d l =
      let here : i < length block.chosen = omega (arith, l, length-map-range_with_len (result (job_of block) (at start)) 0 (length block.chosen)) in
      subst IsWritten (sym (get_or-map-range_with_len (result (job_of block) (at start)) 0 (length block.chosen) i i d here (omega arith)))
      (written_at i here (map (serial (job_of block) (at start) i) (keys (job_of block) i)))

-- ---- the entries
entries_all : (P : Entry → Type 0) (wires : List (List ℕ))
    → ((t : Chosen) (o : Outcome) → IsWritten o → P (entry_of wires (t, o)))
    → (order : List Chosen) (os : List Outcome) → AllByRecursion IsWritten os
    → AllByRecursion P (entries_of wires order os)
entries_all P wires each [] os all = tt
entries_all P wires each (t ∷ ts) [] all = tt
entries_all P wires each (t ∷ ts) (o ∷ os) all = (each t o all.0, entries_all P wires each ts os all.1)

-- ---- the fees
either_below : (b : Bool) (n : ℕ) (s t : Shares) → s.collected < n → t.collected < n → (cond b s t).collected < n
either_below true n s t a b = a
either_below false n s t a b = b

collected_fits : (s : State) (collector : Key) (outcomes : List Outcome) → base_fees outcomes + priority_fees outcomes < 2 ^ 64 → (share_fees s collector outcomes).collected < 2 ^ 64
unfolding share_fees
collected_fits s collector outcomes fits =
    let split : FeeSplit = split_of (base_fees outcomes) (priority_fees outcomes) in
    let paid : Account = more (at s collector) split.rest in
    either_below (not (split.rest == 0) && may_collect collector paid) (2 ^ 64)
    (record { accounts = put s collector paid; burned = split.burned; collected = split.rest })
    (record { accounts = s; burned = split.burned + split.rest; collected = 0 })
    (rest_fits (base_fees outcomes) (priority_fees outcomes) fits) (let none : 0 < 2 ^ 64 = lit≤ tt in none)
  where
    rest_fits : (base priority : ℕ) → base + priority < 2 ^ 64 → (split_of base priority).rest < 2 ^ 64
    rest_fits base priority fits = omega (arith, fits)

-- ---- the hashes
newest_wide : (marks : List Mark) → All (λ mark. IsHash mark.hash) marks → IsHash (newest_of marks)
newest_wide [] all = length-replicate {A = ℕ} 32 0
newest_wide (mark ∷ marks) all = All-head (λ (m : Mark). IsHash m.hash) mark marks all

-- ---- the block
module _ (s : Snapshot) (head : Head) (wires : List (List ℕ)) (order : List Chosen) (readable : IsReadable s) (all : All IsChosen order) (of : AreOf wires order) where
  abbrev run : Ran
  run = serial_run s head.slot order

  outcomes_written : AllByRecursion IsWritten run.outcomes
  unfolding serial_run
  outcomes_written =
      let block = told_in s head.slot order in
      recursion_from_All IsWritten (serial_outcomes (job_of block) (at s.accounts)) (all_written block all s.accounts)

  pub each_entry : (P : Entry → Type 0) → ((t : Chosen) (o : Outcome) → IsWritten o → P (entry_of wires (t, o))) → All P (entries_of wires order run.outcomes)
  each_entry P each = All-from_recursion P (entries_of wires order run.outcomes) (entries_all P wires each order run.outcomes outcomes_written)

  texts : HasTexts (closed s head wires order).block
  unfolding closed
  texts = each_entry (λ (entry : Entry). All IsUtf8 entry.lines) (λ t o is. All-from_recursion IsUtf8 o.lines is.texts)

  counted : IsCounted (closed s head wires order).block
  unfolding closed
  counted = block_counted wires order run.outcomes of (run_may_end s head.slot wires order readable all of).small (closed s head wires order).block refl

  burned_fits : (closed s head wires order).block.burned < 2 ^ 64
  burned_fits = let a = burned_is_all s head wires order readable all in let b = readable.state.fits in omega (arith, a, b)

  widths : head.slot < 2 ^ 64 → length head.collector.0 ≡ 32 → All (λ mark. IsHash mark.hash) s.recent → HasWidths (closed s head wires order).block
  unfolding closed
  widths slot collector hashes =
      let may = run_may_end s head.slot wires order readable all of in
      let accounts = activate_all (share_fees run.accounts head.collector run.outcomes).accounts in
      record {
        slot = slot;
        collector = collector;
        previous = newest_wide s.recent hashes;
        statuses = each_entry (λ (entry : Entry). IsStatus entry.status) (λ t o is. is.status);
        units = each_entry (λ (entry : Entry). entry.units < 2 ^ 64) (λ t o is. is.units);
        fees = each_entry (λ (entry : Entry). entry.fee < 2 ^ 64) (λ t o is. is.small.fee);
        burned = burned_fits;
        collected = collected_fits run.accounts head.collector run.outcomes (let supply = may.supply in omega (arith, supply));
        state = length-sha256 _;
        hash = length-sha256 _;
      }

pub records_are_read : RecordsAreRead
unfolding block_result
records_are_read s batch fits =
    let order = order_of s batch in
    let head = head_of batch in
    let all = admitted_fit s batch fits.can_run in
    let of = admitted_are_of s batch.wires (admitted (start_in s) batch.wires) fits.can_run.0 fits.few refl in
    let said = texts s head batch.wires order fits.can_run.0 all of in
    let wide = widths s head batch.wires order fits.can_run.0 all of fits.slot fits.collector fits.hashes in
    record {
      texts = said;
      widths = wide;
      read = round_trips (closed s head batch.wires order).block (counted s head batch.wires order fits.can_run.0 all of) said wide;
    }
