-- A record that `produce` wrote is read again, and its replay matches.
use Rattle.std.proofs.Common.{◌≡◌, ℕ, List, ◌++◌, length, take, drop, Result, Ok, Err, refl, sym, ap, subst, ◌∙◌, arith, length-append}
use Rattle.std.proofs.lemmas.List.{drop_at, length-take-le, take_at}
use Rattle.std.proofs.lemmas.List.Elements.{All-from_recursion}
use Rattle.spec_base.specs.Bytes.{IsBytes}
use Rattle.command_parts.specs.declared.answer.Answer.{Answer}
use Rattle.command_parts.specs.Answers.{written}
use Rattle.snapshot_codec.specs.declared.batch.Batch.{Batch}
use Rattle.snapshot_codec.specs.declared.fault.BatchFault.{BatchFault}
use Rattle.snapshot_codec.specs.declared.fault.SnapshotFault.{SnapshotFault}
use Rattle.snapshot_codec.specs.declared.snapshot.Prefix.{Prefix}
use Rattle.snapshot_codec.specs.declared.snapshot.Snapshot.{Snapshot}
use Rattle.snapshot_codec.specs.Batch.{IsBatch}
use Rattle.snapshot_codec.specs.BatchReading.{batch_of}
use Rattle.snapshot_codec.specs.Snapshot.{BeginsWith, Spells}
use Rattle.snapshot_codec.specs.SnapshotReading.{prefix_of}
use Rattle.snapshot_codec.proofs.BatchLaws.{takes}
use Rattle.snapshot_codec.proofs.SnapshotLaws.{prefix_again, prefix_takes}
use Rattle.block_record.specs.declared.block.Block.{Block}
use Rattle.block_record.specs.declared.fault.RecordFault.{RecordFault}
use Rattle.block_record.specs.Record.{bytes_of_record}
use Rattle.block_run.specs.declared.block.BlockResult.{BlockResult}
use Rattle.block_run.specs.Blocks.{block_result}
use Rattle.block_replay.specs.declared.verdict.Verdict.{Verdict}
use Rattle.block_laws.specs.Chain.{BatchFits}
use Rattle.block_laws.proofs.Records.{records_are_read}
use Rattle.block_laws.proofs.Replays.{replays_match}
use Rattle.bank_words.specs.declared.command.Command.TheVariants.{Produce}
use Rattle.bank_cli.specs.Answer.{answer_to, judged, produced, produced_after, ran, replayed, replayed_after, replayed_over, unless_refused}
use Rattle.bank_cli.specs.Texts.{batch_text, match_line, record_text, snapshot_text}
use Rattle.bank_cli.proofs.Wires.{batch_wires_are_bytes}
use Rattle.answer_laws.specs.Replays.{IsReplayed, ProducedRecordsMatch}
use Rattle.answer_laws.proofs.Inputs.{bytes_behind, not_refused, within_limit}

-- ---- the record of a block
module _ (bytes : List ℕ) (prefix : Prefix) (batch : Batch) (begins : BeginsWith bytes prefix)
    (is : IsBatch prefix.snapshot.slot (drop prefix.length bytes) batch) (are : IsBytes (drop prefix.length bytes)) where
  abbrev s : Snapshot
  s = prefix.snapshot

  abbrev result : BlockResult
  result = block_result s batch

  abbrev text : List ℕ
  text = take prefix.length bytes

  fits : BatchFits s batch
  fits = record {
    can_run = (begins.readable, All-from_recursion IsBytes batch.wires (batch_wires_are_bytes (drop prefix.length bytes) batch are is.spelled));
    few = is.few;
    slot = is.slot;
    collector = is.collector;
    hashes = begins.widths.hashes;
  }

  long : length text ≡ prefix.length
  long = length-take-le prefix.length bytes begins.within

  begins_again : BeginsWith (text ++ bytes_of_record result.block) prefix
  begins_again = record {
    within = let b = begins.within in omega (arith, long, length-append text (bytes_of_record result.block));
    spelled = subst (λ (l : List ℕ). Spells l s) (sym (take_at text (bytes_of_record result.block) prefix.length long)) begins.spelled;
    readable = begins.readable;
    widths = begins.widths;
  }

  replayed_is : replayed (text ++ bytes_of_record result.block) ≡ written (match_line result.block.hash.0)
  replayed_is =
      ap (λ (r : Result Prefix SnapshotFault). unless_refused snapshot_text (λ (p : Prefix). replayed_after p.snapshot (drop p.length (text ++ bytes_of_record result.block))) r)
      (prefix_again (text ++ bytes_of_record result.block) prefix begins_again)
      ∙ ap (replayed_after s) (drop_at text (bytes_of_record result.block) prefix.length long)
      ∙ ap (λ (r : Result Block RecordFault). unless_refused record_text (replayed_over s) r) (records_are_read s batch fits).read
      ∙ ap (λ (v : Verdict). judged result.block v) (replays_match s batch is.later)

  is_replayed : IsReplayed bytes (ran result)
  is_replayed = record {
    prefix = prefix;
    begins = begins;
    result = result;
    output = refl;
    matches = λ lanes short. within_limit (text ++ bytes_of_record result.block) (replayed (text ++ bytes_of_record result.block)) short ∙ replayed_is;
  }

-- ---- the input
by_batch : (bytes : List ℕ) (prefix : Prefix) → BeginsWith bytes prefix → IsBytes (drop prefix.length bytes)
    → (r : Result Batch BatchFault) → batch_of prefix.snapshot.slot (drop prefix.length bytes) ≡ r
    → (unless_refused batch_text (λ batch. ran (block_result prefix.snapshot batch)) r).status ≡ 0
    → IsReplayed bytes (unless_refused batch_text (λ batch. ran (block_result prefix.snapshot batch)) r)
by_batch bytes prefix begins are (Err fault) e h = absurd (omega (arith, h))
by_batch bytes prefix begins are (Ok batch) e h = is_replayed bytes prefix batch begins (takes prefix.snapshot.slot (drop prefix.length bytes) batch are e) are

by_snapshot : (bytes : List ℕ) → IsBytes bytes → (r : Result Prefix SnapshotFault) → prefix_of bytes ≡ r
    → (unless_refused snapshot_text (λ (p : Prefix). produced_after p.snapshot (drop p.length bytes)) r).status ≡ 0
    → IsReplayed bytes (unless_refused snapshot_text (λ (p : Prefix). produced_after p.snapshot (drop p.length bytes)) r)
by_snapshot bytes are (Err fault) e h = absurd (omega (arith, h))
by_snapshot bytes are (Ok prefix) e h =
    by_batch bytes prefix (prefix_takes bytes prefix are e) (bytes_behind bytes prefix.length are) (batch_of prefix.snapshot.slot (drop prefix.length bytes)) refl h

pub records_match : ProducedRecordsMatch
records_match lanes senders bytes are good =
    let same : answer_to (Produce lanes senders) bytes ≡ produced bytes = not_refused bytes (produced bytes) good in
    subst (IsReplayed bytes) (sym same) (by_snapshot bytes are (prefix_of bytes) refl (ap (λ (a : Answer). a.status) (sym same) ∙ good))
