-- The block of a batch, as the one that is added to a chain.
use Rattle.std.proofs.Common.{◌≡◌, ◌≤◌, ◌<◌, ◌^◌, ℕ, List, length, refl, sym, subst, Result, Ok, Err, OnErr, OnOk}
use Rattle.std.specs.List.{AllByRecursion}
use Rattle.std.proofs.lemmas.List.Elements.{All-from_recursion}
use Rattle.spec_base.specs.Bytes.{IsBytes}
use Rattle.sol_base.specs.Keys.{IsKey}
use Rattle.sol_base.specs.Limits.{max_transactions}
use Rattle.account_store.specs.State.{len}
use Rattle.snapshot_codec.specs.declared.batch.Batch.{Batch}
use Rattle.snapshot_codec.specs.declared.snapshot.Snapshot.{Snapshot}
use Rattle.snapshot_codec.specs.Snapshot.{HasWidths, IsReadable, max_accounts}
use Rattle.block_run.specs.declared.block.BlockResult.{BlockResult}
use Rattle.block_run.specs.Answers.{IsBlockResult}
use Rattle.block_run.specs.Blocks.{block_result, closed}
use Rattle.block_laws.specs.Chain.{NextBlocksCanBeRun}
use Rattle.width_laws.specs.Widths.{SnapshotsAfterBlocksHaveWidths}
use Rattle.ledger_folder.specs.declared.event.Event.{Event}
use Rattle.ledger_folder.specs.Crash.{Lasts, LeavesOnly}
use Rattle.ledger_store.specs.declared.opening.Ledger.{Ledger}
use Rattle.ledger_store.specs.declared.fault.LedgerFault.{LedgerFault}
use Rattle.ledger_store.specs.Adding.{Follows, IsAfter, IsBeforeOrAfter}
use Rattle.ledger_store.specs.Reading.{IsOpen}
use Rattle.ledger_store.proofs.Survived.{unchanged}
use Rattle.ledger_cli.specs.Batches.{IsWithBatchOrNot, Stands}

block_follows : (s : Snapshot) (batch : Batch) → Follows s (block_result s batch).block (block_result s batch).after
unfolding block_result closed
block_follows s batch = record { slot = refl; recent = refl }

-- what the batch comes to follows the state that it was run over
pub result_follows : (s : Snapshot) (batch : Batch) (answer : BlockResult) → IsBlockResult (block_result s batch) answer → Follows s answer.block answer.after
result_follows s batch answer is = subst (λ (r : BlockResult). Follows s r.block r.after) (sym is.exact) (block_follows s batch)

-- and the next block can be run over it, where it has no more accounts than a snapshot may
pub result_readable : (law : NextBlocksCanBeRun) (s : Snapshot) (batch : Batch) (answer : BlockResult) → IsReadable s → AllByRecursion IsBytes batch.wires → length batch.wires ≤ max_transactions
    → IsBlockResult (block_result s batch) answer → len answer.after.accounts ≤ max_accounts → IsReadable answer.after
result_readable law s batch answer readable bytes few is fits =
    subst (λ (r : BlockResult). IsReadable r.after) (sym is.exact)
    (law s batch (readable, All-from_recursion IsBytes batch.wires bytes) few
    (subst (λ (r : BlockResult). len r.after.accounts ≤ max_accounts) is.exact fits)).readable

-- where nothing was added, a crash leaves the chain as it was
pub nothing_added : (ledger : Ledger) (batch : Batch) (old : List Event) → IsOpen old ledger → LeavesOnly old old (IsWithBatchOrNot ledger batch)
nothing_added ledger batch old is_open disk shows later since h crashed leaves =
    (0, unchanged ledger (block_result ledger.newest batch).block (block_result ledger.newest batch).after 0 old old is_open refl disk shows later since h crashed leaves)

-- and it has the widths of its types
pub result_wide : (law : SnapshotsAfterBlocksHaveWidths) (s : Snapshot) (batch : Batch) → IsReadable s → HasWidths s → AllByRecursion IsBytes batch.wires → batch.slot < 2 ^ 64 → IsKey batch.collector
    → HasWidths (block_result s batch).after
result_wide law s batch readable has bytes slot collector =
    law s batch (record { can_run = (readable, All-from_recursion IsBytes batch.wires bytes); snapshot = has; slot = slot; collector = collector })

-- where what the batch comes to was added, that of the chain before or after it
batch_added : (ledger : Ledger) (batch : Batch) (answer : BlockResult) (micros : ℕ) (old new : List Event) → IsBlockResult (block_result ledger.newest batch) answer
    → HasWidths (block_result ledger.newest batch).after
    → (HasWidths answer.after → LeavesOnly old new (IsBeforeOrAfter ledger answer.block answer.after micros))
    → LeavesOnly old new (IsWithBatchOrNot ledger batch)
batch_added ledger batch answer micros old new is has leaves_only disk shows later since h crashed leaves =
    let had : HasWidths answer.after = subst (λ (r : BlockResult). HasWidths r.after) (sym is.exact) has in
    (micros, subst (λ (r : BlockResult). IsBeforeOrAfter ledger r.block r.after micros disk crashed) is.exact (leaves_only had disk shows later since h crashed leaves))

-- a batch is added where the chain that it is added to is the one that was opened
pub opened_added : (ledger finished : Ledger) (batch : Batch) (answer : BlockResult) (micros : ℕ) (old new : List Event) → finished ≡ ledger → IsBlockResult (block_result ledger.newest batch) answer
    → HasWidths (block_result ledger.newest batch).after
    → (HasWidths answer.after → LeavesOnly old new (IsBeforeOrAfter finished answer.block answer.after micros))
    → LeavesOnly old new (IsWithBatchOrNot ledger batch)
opened_added ledger finished batch answer micros old new same is has leaves_only =
    batch_added ledger batch answer micros old new is has
    (subst (λ (l : Ledger). HasWidths answer.after → LeavesOnly old new (IsBeforeOrAfter l answer.block answer.after micros)) same leaves_only)

-- ---- what status 0 says
-- what was added where the status is 0
kept : {A X : Type 0} (added : Result A LedgerFault) (status : ℕ) → OnErr added (status ≡ 0 → ⊥) → status ≡ 0 → OnOk added X → X
kept (Ok done) status unless zero x = x
kept (Err fault) status unless zero x = absurd (unless zero)

-- the block of the batch then stands
pub opened_stands : {A : Type 0} (ledger finished : Ledger) (batch : Batch) (answer : BlockResult) (micros : ℕ) (added : Result A LedgerFault) (status : ℕ) (old new : List Event) → finished ≡ ledger
    → IsBlockResult (block_result ledger.newest batch) answer → OnErr added (status ≡ 0 → ⊥)
    → HasWidths (block_result ledger.newest batch).after
    → (HasWidths answer.after → OnOk added (Lasts old new (λ _ crashed. IsAfter finished answer.block answer.after micros crashed)))
    → status ≡ 0 → Stands ledger batch old new
opened_stands ledger finished batch answer micros added status old new same is unless has lasts zero =
    let has_it : HasWidths answer.after = subst (λ (r : BlockResult). HasWidths r.after) (sym is.exact) has in (
      micros,
      subst (λ (l : Ledger). Lasts old new (λ _ crashed. IsAfter l (block_result ledger.newest batch).block (block_result ledger.newest batch).after micros crashed)) same
          (subst (λ (r : BlockResult). Lasts old new (λ _ crashed. IsAfter finished r.block r.after micros crashed)) is.exact (kept added status unless zero (lasts has_it))),
    )
