-- What `produce` writes, as `replay` answers to it, and what an answer of `replay` says.
use Rattle.std.specs.Prelude.{◌≡◌, ℕ, ◌≤◌, List, ◌++◌, length, take, drop}
use Rattle.spec_base.specs.Bytes.{IsBytes}
use Rattle.command_parts.specs.declared.answer.Answer.{Answer}
use Rattle.command_parts.specs.Answers.{written}
use Rattle.snapshot_codec.specs.declared.snapshot.Prefix.{Prefix}
use Rattle.snapshot_codec.specs.Snapshot.{BeginsWith, snapshot_bytes}
use Rattle.block_record.specs.declared.block.Block.{Block}
use Rattle.block_record.specs.Record.{IsRecord, bytes_of_record}
use Rattle.block_run.specs.declared.block.BlockResult.{BlockResult}
use Rattle.answer_laws.specs.Matching.{IsItsBlock}
use Rattle.bank_words.specs.declared.command.Command.TheVariants.{Produce, Replay}
use Rattle.bank_cli.specs.Answer.{answer_to, input_limit}
use Rattle.bank_cli.specs.Texts.{match_line}

-- the bytes of the snapshot that an input begins with, and then those of a record
abbrev pub replay_input : List ℕ → Prefix → BlockResult → List ℕ
replay_input bytes prefix result = take prefix.length bytes ++ bytes_of_record result.block

-- the input begins with a snapshot, the output is a record and the snapshot after it, and a replay
-- of the first two matches
pub record IsReplayed (bytes : List ℕ) (answer : Answer) : Type 0 where
  pub prefix : Prefix
  pub begins : BeginsWith bytes prefix
  pub result : BlockResult
  pub output : answer.output ≡ bytes_of_record result.block ++ snapshot_bytes result.after
  pub matches : (lanes : ℕ) → length (replay_input bytes prefix result) ≤ input_limit
      → answer_to (Replay lanes) (replay_input bytes prefix result)
      ≡ written (match_line result.block.hash.0)

-- so it is of every input that `produce` answers with status 0
abbrev pub ProducedRecordsMatch : Type 0
ProducedRecordsMatch = (lanes senders : ℕ) (bytes : List ℕ) → IsBytes bytes
    → (answer_to (Produce lanes senders) bytes).status ≡ 0
    → IsReplayed bytes (answer_to (Produce lanes senders) bytes)

-- the input is a snapshot and a record of a later slot, the entries of the record come to the block
-- itself, and its hash is written
pub record IsItsRecord (bytes : List ℕ) (answer : Answer) : Type 0 where
  pub prefix : Prefix
  pub begins : BeginsWith bytes prefix
  pub block : Block
  pub is : IsRecord (drop prefix.length bytes) block
  pub same : IsItsBlock prefix.snapshot block
  pub says : answer ≡ written (match_line block.hash.0)

-- so it is of every input that `replay` answers with status 0
abbrev pub MatchesAreBlocks : Type 0
MatchesAreBlocks = (lanes : ℕ) (bytes : List ℕ) → IsBytes bytes
    → (answer_to (Replay lanes) bytes).status ≡ 0
    → IsItsRecord bytes (answer_to (Replay lanes) bytes)
