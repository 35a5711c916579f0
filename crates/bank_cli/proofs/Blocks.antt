-- What a run and a replay are told by.
use Rattle.std.proofs.Common.{◌≡◌, ◌++◌, ℕ, List, length, ap, ap₂, ◌∙◌}
use Rattle.sol_base.specs.declared.key.Hash32.{Hash32}
use Rattle.snapshot_codec.specs.declared.snapshot.Snapshot.{Snapshot}
use Rattle.snapshot_codec.specs.Snapshot.{snapshot_bytes}
use Rattle.block_record.specs.declared.block.Block.{Block}
use Rattle.block_record.specs.declared.block.Listed.{Listed}
use Rattle.status_cache.specs.Recent.{newest_of}
use Rattle.block_run.specs.declared.block.BlockResult.{BlockResult}
use Rattle.block_run.specs.declared.block.Recorded.{Recorded}
use Rattle.block_run.specs.Answers.{IsRecorded}
use Rattle.block_run.specs.Blocks.{block_result, listed_result}
use Rattle.block_replay.specs.declared.verdict.Verdict.{Verdict}
use Rattle.block_replay.specs.Verdict.{verdict}
use Rattle.batch_gen.specs.declared.made.Made.{Made}
use Rattle.command_parts.specs.declared.answer.Answer.{Answer}
use Rattle.command_parts.specs.Answers.{written}
use Rattle.bank_cli.specs.Answer.{ran, judged, replayed_over, run_line, made_run}
use Rattle.bank_cli.specs.Texts.{refused_lines}
use Rattle.bank_cli.proofs.EntryCount.{entry_count}

-- the answer to a batch is told by its record, the snapshot after it and the transactions that did not run
pub block_told : (wanted : BlockResult) (block : Recorded) (output notes : List ℕ) → IsRecorded wanted block → output ≡ block.record ++ snapshot_bytes block.after → notes ≡ refused_lines block.refused
    → ◌≡◌ {A = Answer} (record { status = 0; output = output; notes = notes }) (ran wanted)
block_told wanted block output notes is written told =
    ap₂ (λ (o n : List ℕ). let a : Answer = record { status = 0; output = o; notes = n } in a)
    (written ∙ ap₂ (λ (r : List ℕ) (s : Snapshot). r ++ snapshot_bytes s) is.record_is is.after)
    (told ∙ ap refused_lines is.refused)

-- the line of a made input, from the block that it came to
pub line_told : (count : ℕ) (m : Made) (block : BlockResult) (line : List ℕ) → block ≡ block_result m.snapshot m.batch → line ≡ run_line count (length block.block.entries) block.block
    → written line ≡ made_run count m
line_told count m block line ran told =
    ap written (told ∙ ap (λ (b : BlockResult). run_line count (length b.block.entries) b.block) ran
    ∙ ap (λ (n : ℕ). run_line count n (block_result m.snapshot m.batch).block) (entry_count m.snapshot m.batch))

-- the verdict over the replayed block is that of the record
pub verdict_told : (snapshot : Snapshot) (given : Block) (newest : Hash32) (listed : Listed) (found : Verdict)
    (told : Answer) → newest ≡ newest_of snapshot.recent → listed ≡ listed_result snapshot given
    → found ≡ verdict snapshot.slot newest given listed → told ≡ judged given found → told ≡ replayed_over snapshot given
verdict_told snapshot given newest listed found told same ran compared is =
    is ∙ ap (judged given) (compared ∙ ap (λ (hash : Hash32). verdict snapshot.slot hash given listed) same
    ∙ ap (λ (replayed : Listed). verdict snapshot.slot (newest_of snapshot.recent) given replayed) ran)
