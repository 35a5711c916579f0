-- The snapshot that `produce` writes, as the next `produce` reads it.
use Rattle.std.specs.Prelude.{◌≡◌, ℕ, ◌≤◌, List, ◌++◌, length, drop}
use Rattle.spec_base.specs.Bytes.{IsBytes}
use Rattle.command_parts.specs.declared.answer.Answer.{Answer}
use Rattle.account_store.specs.State.{len}
use Rattle.snapshot_codec.specs.declared.batch.Batch.{Batch}
use Rattle.snapshot_codec.specs.declared.snapshot.Prefix.{Prefix}
use Rattle.snapshot_codec.specs.declared.snapshot.Snapshot.{Snapshot}
use Rattle.snapshot_codec.specs.Batch.{IsBatch}
use Rattle.snapshot_codec.specs.Snapshot.{BeginsWith, max_accounts, snapshot_bytes}
use Rattle.block_record.specs.Record.{bytes_of_record}
use Rattle.block_run.specs.declared.block.BlockResult.{BlockResult}
use Rattle.block_run.specs.Blocks.{block_result}
use Rattle.bank_words.specs.declared.command.Command.TheVariants.{Produce}
use Rattle.bank_cli.specs.Answer.{answer_to, input_limit, produced_after}
use Rattle.width_laws.specs.Widths.{IsReadAsItself}

-- `produce` answers to the bytes that spell a snapshot, and to those that follow, by that snapshot
abbrev pub IsRunOver : Snapshot → Type 0
IsRunOver s = (lanes senders : ℕ) (rest : List ℕ) → length (snapshot_bytes s ++ rest) ≤ input_limit
    → answer_to (Produce lanes senders) (snapshot_bytes s ++ rest) ≡ produced_after s rest

-- The input is a snapshot and a batch, and the output is the record of their block and the snapshot
-- after it; where that has no more accounts than a snapshot may, it is read as itself, and the next
-- `produce` runs over it.
pub record IsChained (bytes : List ℕ) (answer : Answer) : Type 0 where
  pub prefix : Prefix
  pub begins : BeginsWith bytes prefix
  pub batch : Batch
  pub is : IsBatch prefix.snapshot.slot (drop prefix.length bytes) batch
  pub result : BlockResult
  pub block : result ≡ block_result prefix.snapshot batch
  pub output : answer.output ≡ bytes_of_record result.block ++ snapshot_bytes result.after
  pub read : len result.after.accounts ≤ max_accounts → IsReadAsItself result.after
  pub next : len result.after.accounts ≤ max_accounts → IsRunOver result.after

-- so it is of every input that `produce` answers with status 0
abbrev pub ProducedSnapshotsAreRead : Type 0
ProducedSnapshotsAreRead = (lanes senders : ℕ) (bytes : List ℕ) → IsBytes bytes
    → (answer_to (Produce lanes senders) bytes).status ≡ 0
    → IsChained bytes (answer_to (Produce lanes senders) bytes)
