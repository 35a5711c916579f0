-- An input that `replay` answers with status 0.
use Rattle.std.proofs.Common.{◌≡◌, ℕ, List, drop, Result, Ok, Err, refl, sym, ap, subst, ◌∙◌, arith}
use Rattle.std.proofs.lemmas.List.Elements.{All-from_recursion}
use Rattle.spec_base.specs.Bytes.{IsBytes}
use Rattle.command_parts.specs.declared.answer.Answer.{Answer}
use Rattle.status_cache.specs.Recent.{newest_of}
use Rattle.snapshot_codec.specs.declared.fault.SnapshotFault.{SnapshotFault}
use Rattle.snapshot_codec.specs.declared.snapshot.Prefix.{Prefix}
use Rattle.snapshot_codec.specs.declared.snapshot.Snapshot.{Snapshot}
use Rattle.snapshot_codec.specs.Snapshot.{BeginsWith}
use Rattle.snapshot_codec.specs.SnapshotReading.{prefix_of}
use Rattle.snapshot_codec.proofs.SnapshotLaws.{prefix_takes}
use Rattle.block_record.specs.declared.block.Block.{Block}
use Rattle.block_record.specs.declared.fault.RecordFault.{RecordFault}
use Rattle.block_record.specs.Record.{IsRecord}
use Rattle.block_record.specs.RecordReading.{record_of}
use Rattle.block_record.proofs.RecordLaws.{takes}
use Rattle.block_run.specs.Blocks.{listed_result, wires_of}
use Rattle.block_replay.specs.declared.verdict.Verdict.{Verdict}
use Rattle.block_replay.specs.declared.verdict.Verdict.TheVariants.{Match, Differ}
use Rattle.block_replay.specs.Verdict.{verdict}
use Rattle.answer_laws.specs.Matching.{RecordFits}
use Rattle.answer_laws.proofs.Matches.{matching_records}
use Rattle.bank_words.specs.declared.command.Command.TheVariants.{Replay}
use Rattle.bank_cli.specs.Answer.{answer_to, judged, replayed, replayed_after, replayed_over, unless_refused}
use Rattle.bank_cli.specs.Texts.{record_text, snapshot_text}
use Rattle.answer_laws.specs.Replays.{IsItsRecord, MatchesAreBlocks}
use Rattle.answer_laws.proofs.Inputs.{bytes_behind, not_refused, record_wires_are_bytes}

-- a verdict with status 0 is Match
is_match : (given : Block) (v : Verdict) → (judged given v).status ≡ 0 → v ≡ Match
is_match given Match h = refl
is_match given (Differ entry field expected found) h = absurd (omega (arith, h))

judged_well : (bytes : List ℕ) (prefix : Prefix) (block : Block) → BeginsWith bytes prefix → IsBytes (drop prefix.length bytes) → IsRecord (drop prefix.length bytes) block
    → (replayed_over prefix.snapshot block).status ≡ 0 → IsItsRecord bytes (replayed_over prefix.snapshot block)
judged_well bytes prefix block begins are is good =
    let s : Snapshot = prefix.snapshot in
    let wires = All-from_recursion IsBytes (wires_of block) (record_wires_are_bytes (drop prefix.length bytes) block are is.spelled) in
    let fits : RecordFits s block = record { can_run = (begins.readable, wires); counted = is.counted; widths = is.widths } in
    let found = is_match block (verdict s.slot (newest_of s.recent) block (listed_result s block)) good in
    record {
      prefix = prefix;
      begins = begins;
      block = block;
      is = is;
      same = (matching_records s block fits).0 found;
      says = ap (judged block) found;
    }

by_record : (bytes : List ℕ) (prefix : Prefix) → BeginsWith bytes prefix → IsBytes (drop prefix.length bytes) → (r : Result Block RecordFault) → record_of (drop prefix.length bytes) ≡ r
    → (unless_refused record_text (replayed_over prefix.snapshot) r).status ≡ 0 → IsItsRecord bytes (unless_refused record_text (replayed_over prefix.snapshot) r)
by_record bytes prefix begins are (Err fault) e h = absurd (omega (arith, h))
by_record bytes prefix begins are (Ok block) e h = judged_well bytes prefix block begins are (takes (drop prefix.length bytes) block are e) h

by_snapshot : (bytes : List ℕ) → IsBytes bytes → (r : Result Prefix SnapshotFault) → prefix_of bytes ≡ r
    → (unless_refused snapshot_text (λ (p : Prefix). replayed_after p.snapshot (drop p.length bytes)) r).status ≡ 0
    → IsItsRecord bytes (unless_refused snapshot_text (λ (p : Prefix). replayed_after p.snapshot (drop p.length bytes)) r)
by_snapshot bytes are (Err fault) e h = absurd (omega (arith, h))
by_snapshot bytes are (Ok prefix) e h =
    by_record bytes prefix (prefix_takes bytes prefix are e) (bytes_behind bytes prefix.length are) (record_of (drop prefix.length bytes)) refl h

pub matches_are : MatchesAreBlocks
matches_are lanes bytes are good =
    let same : answer_to (Replay lanes) bytes ≡ replayed bytes = not_refused bytes (replayed bytes) good in
    subst (IsItsRecord bytes) (sym same) (by_snapshot bytes are (prefix_of bytes) refl (ap (λ (a : Answer). a.status) (sym same) ∙ good))
