-- What is answered to words and input: a status, an output and notes.
use Rattle.std.specs.Prelude.{ℕ, List, [], ◌++◌, Bool, true, false, nat_eq, nat_le, length, drop, filter, codes, Option, Some, None, Result, Ok, Err, if◌then◌else◌}
use Rattle.std.specs.Fmt.{decimal}
use Rattle.hex.specs.Hex.{encode_lower}
use Rattle.tx_report.specs.declared.status.Status.{Status}
use Rattle.tx_report.specs.declared.status.Status.TheVariants.{Good, Failed, Dropped}
use Rattle.snapshot_codec.specs.declared.snapshot.Snapshot.{Snapshot}
use Rattle.snapshot_codec.specs.Snapshot.{snapshot_bytes}
use Rattle.snapshot_codec.specs.SnapshotReading.{prefix_of}
use Rattle.snapshot_codec.specs.Batch.{batch_bytes}
use Rattle.snapshot_codec.specs.BatchReading.{batch_of}
use Rattle.block_record.specs.declared.block.Block.{Block}
use Rattle.block_record.specs.declared.block.Entry.{Entry}
use Rattle.block_record.specs.Record.{bytes_of_record}
use Rattle.block_record.specs.RecordReading.{record_of}
use Rattle.status_cache.specs.Recent.{newest_of}
use Rattle.admission.specs.Admission.{admitted}
use Rattle.block_run.specs.declared.block.BlockResult.{BlockResult}
use Rattle.block_run.specs.Blocks.{block_result, listed_result, start_in}
use Rattle.block_replay.specs.Verdict.{verdict}
use Rattle.block_replay.specs.declared.verdict.Field.{Field}
use Rattle.block_replay.specs.declared.verdict.Verdict.{Verdict}
use Rattle.block_replay.specs.declared.verdict.Verdict.TheVariants.{Match, Differ}
use Rattle.batch_gen.specs.declared.made.Made.{Made}
use Rattle.batch_gen.specs.Generator.{made}
use Rattle.sbpf_asm.specs.Assembly.{assembled}
use Rattle.sbpf_asm.specs.Listing.{listed}
use Rattle.bank_show.specs.Show.{text_of_block}
use Rattle.bank_words.specs.Commands.{command_in}
use Rattle.bank_words.specs.declared.command.Command.{Command}
use Rattle.bank_words.specs.declared.command.Command.TheVariants.{Produce, Replay, Show, Make, Assemble, List as list_image}
use Rattle.command_parts.specs.declared.answer.Answer.{Answer}
use Rattle.command_parts.specs.Answers.{written}
use Rattle.bank_cli.specs.Texts.{line, snapshot_text, batch_text, record_text, asm_text, list_text, refused_lines, match_line, differ_line}

-- ---- the forms of an answer

-- one line of a note alone
abbrev pub refused : ℕ → List ℕ → Answer
refused status text = record { status = status; output = []; notes = line text }

-- the answer to an input that is refused
abbrev pub input_refused : List ℕ → Answer
input_refused text = refused 3 text

-- what is answered to a part of the input, or why it is none
abbrev pub unless_refused : {X E : Type 0} → (E → List ℕ) → (X → Answer) → Result X E → Answer
unless_refused text answer (Ok part) = answer part
unless_refused text answer (Err fault) = input_refused (text fault)

-- what is answered to a snapshot and the bytes after it
abbrev pub after_snapshot : (Snapshot → List ℕ → Answer) → List ℕ → Answer
after_snapshot answer bytes =
    unless_refused snapshot_text (λ prefix. answer prefix.snapshot (drop prefix.length bytes))
    (prefix_of bytes)

-- ---- produce: the record of the block and the snapshot after it; a line for each transaction that
-- did not run

abbrev pub ran : BlockResult → Answer
ran block = record {
  status = 0;
  output = bytes_of_record block.block ++ snapshot_bytes block.after;
  notes = refused_lines block.refused;
}

abbrev pub produced_after : Snapshot → List ℕ → Answer
produced_after snapshot rest =
    unless_refused batch_text (λ batch. ran (block_result snapshot batch))
    (batch_of snapshot.slot rest)

abbrev pub produced : List ℕ → Answer
produced bytes = after_snapshot produced_after bytes

-- ---- replay: whether the record is what its entries give, or where it first differs

abbrev pub differed : ℕ → Field → Answer
differed entry field = record { status = 1; output = differ_line entry field; notes = [] }

abbrev pub judged : Block → Verdict → Answer
judged given Match = written (match_line given.hash.0)
judged given (Differ entry field expected found) = differed entry field

abbrev pub replayed_over : Snapshot → Block → Answer
replayed_over snapshot given =
    judged given (verdict snapshot.slot (newest_of snapshot.recent) given
    (listed_result snapshot given))

abbrev pub replayed_after : Snapshot → List ℕ → Answer
replayed_after snapshot rest = unless_refused record_text (replayed_over snapshot) (record_of rest)

abbrev pub replayed : List ℕ → Answer
replayed bytes = after_snapshot replayed_after bytes

-- ---- show: the block of a record as one JSON object

abbrev pub shown : List ℕ → Answer
shown bytes =
    unless_refused record_text (λ block. written (line (text_of_block block))) (record_of bytes)

-- ---- make: an input that a number draws, or one line of what it comes to

abbrev pub is_good : Status → Bool
is_good Good = true
is_good (Failed _ _ _) = false
is_good (Dropped _) = false

abbrev pub is_failed : Status → Bool
is_failed Good = false
is_failed (Failed _ _ _) = true
is_failed (Dropped _) = false

abbrev pub is_dropped : Status → Bool
is_dropped Good = false
is_dropped (Failed _ _ _) = false
is_dropped (Dropped _) = true

-- how many entries have such a status
abbrev pub count_of : (Status → Bool) → List Entry → ℕ
count_of test entries = length (filter (λ entry. test entry.status) entries)

-- how many transactions of a made input run
abbrev pub admitted_count : Made → ℕ
admitted_count m = length (admitted (start_in m.snapshot) m.batch.wires).order

abbrev pub counts_text : ℕ → ℕ → List Entry → List ℕ
counts_text count order entries =
    codes "made " ++ decimal count ++ codes " admitted " ++ decimal order
    ++ codes " ok " ++ decimal (count_of is_good entries)
    ++ codes " failed " ++ decimal (count_of is_failed entries)
    ++ codes " dropped " ++ decimal (count_of is_dropped entries)

abbrev pub run_line : ℕ → ℕ → Block → List ℕ
run_line count order block =
    line (counts_text count order block.entries ++ codes " burned " ++ decimal block.burned
    ++ codes " hash " ++ encode_lower block.hash.0)

abbrev pub input_bytes : Made → List ℕ
input_bytes m = snapshot_bytes m.snapshot ++ batch_bytes m.batch

abbrev pub made_run : ℕ → Made → Answer
made_run count m = written (run_line count (admitted_count m) (block_result m.snapshot m.batch).block)

abbrev pub made_answer : ℕ → ℕ → Bool → Answer
made_answer number count run =
    if run then made_run count (made number count)
    else written (input_bytes (made number count))

-- ---- asm and list: the image of a text, and the text of an image

abbrev pub assembled_answer : List ℕ → Answer
assembled_answer bytes = unless_refused asm_text written (assembled bytes)

abbrev pub listed_answer : List ℕ → Answer
listed_answer bytes = unless_refused list_text written (listed bytes)

-- ---- the answer

-- the most bytes of an input
abbrev pub input_limit : ℕ
input_limit = 536870912

abbrev pub within : List ℕ → Answer → Answer
within bytes answer =
    if nat_le (length bytes) input_limit then answer else input_refused (codes "input: TooLong")

-- The number of lanes and of senders changes nothing, nor do the bytes where an input is made.
abbrev pub answer_to : Command → List ℕ → Answer
answer_to (Produce lanes senders) bytes = within bytes (produced bytes)
answer_to (Replay lanes) bytes = within bytes (replayed bytes)
answer_to Show bytes = within bytes (shown bytes)
answer_to (Make number count run lanes) bytes = made_answer number count run
answer_to Assemble bytes = within bytes (assembled_answer bytes)
answer_to list_image bytes = within bytes (listed_answer bytes)

abbrev pub answer_for : Option Command → List ℕ → Answer
answer_for (Some command) bytes = answer_to command bytes
answer_for None bytes = refused 2 (codes "words refused")

-- the answer to words and the bytes of the input
abbrev pub answer : List (List ℕ) → List ℕ → Answer
answer words bytes = answer_for (command_in words) bytes

-- ---- the input

-- the command looks at the input
abbrev pub takes_input : Command → Bool
takes_input (Produce _ _) = true
takes_input (Replay _) = true
takes_input Show = true
takes_input (Make _ _ _ _) = false
takes_input Assemble = true
takes_input list_image = true

-- the command is done on the caller's lane alone: any but produce, on one lane where it runs
-- transactions
abbrev pub is_alone : Command → Bool
is_alone (Produce _ _) = false
is_alone (Replay lanes) = nat_eq lanes 1
is_alone Show = true
is_alone (Make _ _ run lanes) = if run then nat_eq lanes 1 else true
is_alone Assemble = true
is_alone list_image = true

abbrev pub has_input : Option Command → Bool
has_input (Some command) = takes_input command
has_input None = false

-- the words ask for the input
abbrev pub reads_input : List (List ℕ) → Bool
reads_input words = has_input (command_in words)

-- the answer where the source failed
abbrev pub read_failed : Answer
read_failed = refused 4 (codes "read failed")
