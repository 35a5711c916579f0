-- A snapshot that `produce` wrote is read as itself, and the next `produce` runs over it.
use Rattle.std.proofs.Common.{◌≡◌, ◌≤◌, ℕ, Bool, true, false, List, ◌++◌, length, take, drop, Result, Ok, Err, refl, sym, ap, subst, ◌∙◌, arith}
use Rattle.std.specs.Prelude.{codes, nat_le, if◌then◌else◌}
use Rattle.std.proofs.lemmas.Bool.Decides.{nat_tests}
use Rattle.std.proofs.lemmas.List.{drop_at, take-append-drop}
use Rattle.std.proofs.lemmas.List.Elements.{All-from_recursion}
use Rattle.spec_base.specs.Bytes.{IsBytes}
use Rattle.spec_base.proofs.Binding.{after_bytes}
use Rattle.command_parts.specs.declared.answer.Answer.{Answer}
use Rattle.account_store.specs.State.{len}
use Rattle.snapshot_codec.specs.declared.batch.Batch.{Batch}
use Rattle.snapshot_codec.specs.declared.fault.BatchFault.{BatchFault}
use Rattle.snapshot_codec.specs.declared.fault.SnapshotFault.{SnapshotFault}
use Rattle.snapshot_codec.specs.declared.snapshot.Prefix.{Prefix}
use Rattle.snapshot_codec.specs.declared.snapshot.Snapshot.{Snapshot}
use Rattle.snapshot_codec.specs.Batch.{IsBatch}
use Rattle.snapshot_codec.specs.BatchReading.{batch_of}
use Rattle.snapshot_codec.specs.Snapshot.{BeginsWith, max_accounts, snapshot_bytes}
use Rattle.snapshot_codec.specs.SnapshotReading.{prefix_of}
use Rattle.snapshot_codec.proofs.BatchLaws.{takes}
use Rattle.snapshot_codec.proofs.SnapshotLaws.{prefix_takes}
use Rattle.block_run.specs.declared.block.BlockResult.{BlockResult}
use Rattle.block_run.specs.Blocks.{block_result}
use Rattle.bank_words.specs.declared.command.Command.TheVariants.{Produce}
use Rattle.bank_cli.specs.Answer.{answer_to, input_limit, input_refused, produced, produced_after, ran, unless_refused, within}
use Rattle.bank_cli.specs.Texts.{batch_text, snapshot_text}
use Rattle.bank_cli.proofs.Wires.{batch_wires_are_bytes}
use Rattle.width_laws.specs.Produced.{IsChained, IsRunOver, ProducedSnapshotsAreRead}
use Rattle.width_laws.specs.Widths.{AreWide, IsReadAsItself}
use Rattle.width_laws.proofs.Afters.{are_read}

-- ---- the limit of an input
within_limit : (bytes : List ℕ) (answer : Answer) → length bytes ≤ input_limit → within bytes answer ≡ answer
within_limit bytes answer short = by_test (nat_le (length bytes) input_limit) (grind (arith, nat_tests))
  where
    by_test : (b : Bool) → b ≡ true → (if b then answer else input_refused (codes "input: TooLong")) ≡ answer
    by_test true e = refl
    by_test false e = absurd (cc)

-- an answer of status 0 is to an input within the limit
not_refused : (bytes : List ℕ) (answer : Answer) → (within bytes answer).status ≡ 0 → within bytes answer ≡ answer
not_refused bytes answer = by_test (nat_le (length bytes) input_limit)
  where
    by_test : (b : Bool) → (let a : Answer = if b then answer else input_refused (codes "input: TooLong") in a.status) ≡ 0
        → (if b then answer else input_refused (codes "input: TooLong")) ≡ answer
    by_test true h = refl
    by_test false h = absurd (omega (arith, h))

-- ---- the snapshot that is written
run_over : (s : Snapshot) → IsReadAsItself s → IsRunOver s
run_over s read lanes senders rest short =
    let bytes : List ℕ = snapshot_bytes s ++ rest in
    within_limit bytes (produced bytes) short
    ∙ ap (λ (r : Result Prefix SnapshotFault). unless_refused snapshot_text (λ (p : Prefix). produced_after p.snapshot (drop p.length bytes)) r) (read rest)
    ∙ ap (produced_after s) (drop_at (snapshot_bytes s) rest (length (snapshot_bytes s)) refl)

is_chained : (bytes : List ℕ) (prefix : Prefix) (batch : Batch) → BeginsWith bytes prefix → IsBatch prefix.snapshot.slot (drop prefix.length bytes) batch → IsBytes (drop prefix.length bytes)
    → IsChained bytes (ran (block_result prefix.snapshot batch))
is_chained bytes prefix batch begins is are = record {
  prefix = prefix;
  begins = begins;
  batch = batch;
  is = is;
  result = result;
  block = refl;
  output = refl;
  read = read;
  next = λ accounts. run_over result.after (read accounts);
}
  where
    result : BlockResult
    result = block_result prefix.snapshot batch

    wide : AreWide prefix.snapshot batch
    wide = record {
      can_run = (begins.readable, All-from_recursion IsBytes batch.wires (batch_wires_are_bytes (drop prefix.length bytes) batch are is.spelled));
      snapshot = begins.widths;
      slot = is.slot;
      collector = is.collector;
    }

    read : len result.after.accounts ≤ max_accounts → IsReadAsItself result.after
    read accounts = are_read prefix.snapshot batch wide is.few accounts

-- ---- the input
by_batch : (bytes : List ℕ) (prefix : Prefix) → BeginsWith bytes prefix → IsBytes (drop prefix.length bytes)
    → (r : Result Batch BatchFault) → batch_of prefix.snapshot.slot (drop prefix.length bytes) ≡ r
    → (unless_refused batch_text (λ batch. ran (block_result prefix.snapshot batch)) r).status ≡ 0
    → IsChained bytes (unless_refused batch_text (λ batch. ran (block_result prefix.snapshot batch)) r)
by_batch bytes prefix begins are (Err fault) e good = absurd (omega (arith, good))
by_batch bytes prefix begins are (Ok batch) e good = is_chained bytes prefix batch begins (takes prefix.snapshot.slot (drop prefix.length bytes) batch are e) are

by_snapshot : (bytes : List ℕ) → IsBytes bytes → (r : Result Prefix SnapshotFault) → prefix_of bytes ≡ r
    → (unless_refused snapshot_text (λ (p : Prefix). produced_after p.snapshot (drop p.length bytes)) r).status ≡ 0
    → IsChained bytes (unless_refused snapshot_text (λ (p : Prefix). produced_after p.snapshot (drop p.length bytes)) r)
by_snapshot bytes are (Err fault) e good = absurd (omega (arith, good))
by_snapshot bytes are (Ok prefix) e good =
    let behind : IsBytes (drop prefix.length bytes) = after_bytes bytes (take prefix.length bytes) (drop prefix.length bytes) are (sym (take-append-drop prefix.length bytes)) in
    by_batch bytes prefix (prefix_takes bytes prefix are e) behind (batch_of prefix.snapshot.slot (drop prefix.length bytes)) refl good

pub produced_are_read : ProducedSnapshotsAreRead
produced_are_read lanes senders bytes are good =
    let same : answer_to (Produce lanes senders) bytes ≡ produced bytes = not_refused bytes (produced bytes) good in
    subst (IsChained bytes) (sym same) (by_snapshot bytes are (prefix_of bytes) refl (ap (λ (a : Answer). a.status) (sym same) ∙ good))
