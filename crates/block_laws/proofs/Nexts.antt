-- The snapshot after a block is one that may be read.
use Rattle.std.proofs.Common.{◌≡◌, ◌+◌, ◌-◌, ◌^◌, ◌≤◌, ◌<◌, ◌==◌, ◌&&◌, ℕ, Bool, true, false, not, cond, List, [], ◌∷◌, length, refl, subst, All, arith}
use Rattle.std.proofs.lemmas.List.Elements.{All-cons, All-take}
use Rattle.sol_base.specs.declared.key.Key.{Key}
use Rattle.sol_base.specs.Limits.{max_transactions}
use Rattle.account_store.specs.declared.sorted.KeyedAccount.{KeyedAccount}
use Rattle.account_store.specs.State.{State, IsState, at, len, put, sum}
use Rattle.account_store.proofs.StateLaws.{IsState-put, sum-put}
use Rattle.fee_rules.specs.declared.split.FeeSplit.{FeeSplit}
use Rattle.fee_rules.specs.Fees.{split_of}
use Rattle.status_cache.specs.declared.recent.Mark.{Mark}
use Rattle.status_cache.specs.Recent.{Ascends, max_marks}
use Rattle.tx_report.specs.declared.outcome.Outcome.{Outcome}
use Rattle.snapshot_codec.specs.declared.snapshot.Snapshot.{Snapshot}
use Rattle.snapshot_codec.specs.Snapshot.{IsReadable, max_accounts}
use Rattle.admission.specs.declared.chosen.Chosen.{Chosen}
use Rattle.admission.specs.Admission.{admitted}
use Rattle.admission.specs.Chosen.{IsChosen}
use Rattle.bank_law.proofs.States.{at_fits}
use Rattle.block_end.specs.declared.block.Head.{Head}
use Rattle.block_end.specs.Activation.{IsPartly, activated_in}
use Rattle.block_end.specs.BlockEnd.{Shares, activate_all, base_fees, may_collect, more, priority_fees, share, share_fees}
use Rattle.block_run.specs.Blocks.{block_result, closed, head_of, start_in}
use Rattle.block_end.specs.Blocks.{mark_of, processed_in}
use Rattle.block_end.specs.Ending.{AreOf}
use Rattle.block_run.specs.SerialRun.{serial_run}
use Rattle.block_end.proofs.Activating.{next_fits, next_short, partly_begins, partly_ends, partly_goes_on}
use Rattle.block_run.proofs.Calls.{admitted_are_of}
use Rattle.block_end.proofs.Closings.{names_few}
use Rattle.block_run.proofs.Orders.{length-take-least}
use Rattle.block_run.proofs.Runs.{run_may_end}
use Rattle.block_end.proofs.Sorting.{ascending_ascends}
use Rattle.block_laws.specs.Chain.{NextBlocksCanBeRun}
use Rattle.block_laws.specs.Keeping.{order_of}
use Rattle.block_laws.proofs.Keeps.{admitted_fit}

-- ---- the accounts
-- once the fees are shared
shared_either : (b : Bool) (s t : Shares) → IsState s.accounts → IsState t.accounts → IsState (cond b s t).accounts
shared_either true s t a b = a
shared_either false s t a b = b

shared_state : (s : State) (collector : Key) (split : FeeSplit) → IsState s → sum s + split.rest ≤ 2 ^ 64 - 1 → IsState (share s collector split).accounts
shared_state s collector split is fits =
    let paid = more (at s collector) split.rest in
    let total = sum-put s collector paid in
    shared_either (not (split.rest == 0) && may_collect collector paid)
    (record { accounts = put s collector paid; burned = split.burned; collected = split.rest })
    (record { accounts = s; burned = split.burned + split.rest; collected = 0 })
    (IsState-put s collector paid is (at_fits s is collector).0 (omega (arith, total, fits))) is

shared_fees_state : (s : State) (collector : Key) (outcomes : List Outcome) → IsState s
    → sum s + base_fees outcomes + priority_fees outcomes < 2 ^ 64
    → IsState (share_fees s collector outcomes).accounts
unfolding share_fees
shared_fees_state s collector outcomes is supply =
    shared_state s collector (split_of (base_fees outcomes) (priority_fees outcomes)) is (rest_fits (sum s) (base_fees outcomes) (priority_fees outcomes) supply)
  where
    rest_fits : (all base priority : ℕ) → all + base + priority < 2 ^ 64 → all + (split_of base priority).rest ≤ 2 ^ 64 - 1
    rest_fits all base priority supply = omega (arith, supply)

-- once programs become executable
active_state : (start : State) → IsState start → IsState (activate_all start)
active_state start is = go (activated_in start) start (partly_begins start is)
  where
    go : (left : List KeyedAccount) (now : State) → IsPartly start now left → IsState (activate_all start)
    go [] now h = subst IsState (partly_ends start now [] h refl) h.state
    go (e ∷ left) now h =
        let after : IsState (put now e.key e.account) = IsState-put now e.key e.account h.state (next_short start now e left h) (next_fits start now e left h) in
        go left (put now e.key e.account) (partly_goes_on start now (put now e.key e.account) e left h refl after)

-- ---- the snapshot
after_readable : (s : Snapshot) (head : Head) (wires : List (List ℕ)) (order : List Chosen) → IsReadable s
    → All IsChosen order → AreOf wires order → len (closed s head wires order).after.accounts ≤ max_accounts
    → IsReadable (closed s head wires order).after
unfolding closed
after_readable s head wires order readable all of few =
    let run = serial_run s head.slot order in
    let may = run_may_end s head.slot wires order readable all of in
    let mark : Mark = mark_of (closed s head wires order).block.hash order run.outcomes in
    record {
      limits = readable.limits;
      recent = record {
        few = length-take-least max_marks (mark ∷ s.recent);
        ascending = All-take (λ (m : Mark). Ascends m.messages) max_marks (mark ∷ s.recent)
            (All-cons (λ (m : Mark). Ascends m.messages) mark s.recent (ascending_ascends (processed_in order run.outcomes)) readable.recent.ascending);
      };
      messages = All-take (λ (m : Mark). length m.messages ≤ max_transactions) max_marks (mark ∷ s.recent)
          (All-cons (λ (m : Mark). length m.messages ≤ max_transactions) mark s.recent (names_few order run.outcomes of.few) readable.messages);
      state = active_state (share_fees run.accounts head.collector run.outcomes).accounts (shared_fees_state run.accounts head.collector run.outcomes may.state may.supply);
      accounts = few;
    }

after_slot : (s : Snapshot) (head : Head) (wires : List (List ℕ)) (order : List Chosen) → (closed s head wires order).after.slot ≡ head.slot
unfolding closed
after_slot s head wires order = refl

pub next_blocks : NextBlocksCanBeRun
unfolding block_result
next_blocks s batch runs few accounts =
    let order = order_of s batch in
    record {
      readable = after_readable s (head_of batch) batch.wires order runs.0 (admitted_fit s batch runs) (admitted_are_of s batch.wires (admitted (start_in s) batch.wires) runs.0 few refl) accounts;
      slot = after_slot s (head_of batch) batch.wires order;
    }
