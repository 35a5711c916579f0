-- The ends of the top call.
use Rattle.std.proofs.Common.{◌≡◌, ℕ, ◌+◌, ◌<◌, ◌≤◌, List, [], length, Bool, true, false, cond, Option, Some, None, Result, Ok, Err, ◌⊎◌, inl, inr, refl, sym, ap, subst, ◌∙◌, nat_le, arith}
use Rattle.std.specs.Prelude.{codes, replicate}
use Rattle.std.proofs.lemmas.Bool.Decides.{nat_tests}
use Rattle.std.proofs.lemmas.List.{length-replicate}
use Rattle.std.proofs.KnownBytes.{Appends-nil, Keeps-refl}
use Rattle.sol_io.specs.Bytes.{ReadsAll}
use Rattle.sol_io.specs.Counts.{Rose}
use Rattle.sol_io.specs.declared.fault.ReadFault.TheVariants.{TooLong}
use Rattle.snapshot_codec.specs.declared.snapshot.Snapshot.{Snapshot}
use Rattle.snapshot_codec.specs.declared.snapshot.Prefix.{Prefix}
use Rattle.snapshot_codec.specs.SnapshotReading.{prefix_of}
use Rattle.snapshot_codec.specs.BatchReading.{batch_of}
use Rattle.block_record.specs.declared.block.Block.{Block}
use Rattle.block_record.specs.RecordReading.{record_of}
use Rattle.status_cache.specs.Recent.{newest_of}
use Rattle.block_run.specs.Blocks.{listed_result}
use Rattle.block_replay.specs.Verdict.{verdict}
use Rattle.block_replay.specs.declared.verdict.Verdict.{Verdict}
use Rattle.block_replay.specs.declared.verdict.Verdict.TheVariants.{Match, Differ}
use Rattle.sbpf_asm.specs.Assembly.{assembled}
use Rattle.sbpf_asm.specs.Listing.{listed}
use Rattle.bank_words.specs.Commands.{command_in}
use Rattle.bank_words.specs.declared.command.Command.{Command}
use Rattle.bank_words.specs.declared.command.Command.TheVariants.{Produce, Replay, Show, Make, Assemble, List as list_image}
use Rattle.command_parts.specs.declared.answer.Answer.{Answer}
use Rattle.command_parts.specs.Deliveries.{Writes, Begins}
use Rattle.bank_cli.specs.Texts.{snapshot_text, batch_text, record_text, asm_text, list_text}
use Rattle.bank_cli.specs.Answer.{input_refused, refused, unless_refused, after_snapshot, produced, produced_after, judged, replayed, replayed_over, replayed_after, shown, made_answer, assembled_answer, listed_answer, within, input_limit, answer_to, answer_for, answer, takes_input, reads_input, read_failed}
use Rattle.bank_cli.specs.Ending.{TellsAnswer, TellsFault, Stops, EndsWhole, EndsEarly, FailsEarly}

-- ---- answers that do not look at the input

-- the answer is the same for all bytes
told_always : (answers : List ℕ → Answer) (left : Option (List ℕ)) (count : ℕ) (told : Answer) → ((bytes : List ℕ) → told ≡ answers bytes) → TellsAnswer answers left count count told
told_always answers None count told same = record { bytes = []; input = tt; defined = same []; stands = refl }
told_always answers (Some bytes) count told same = record { bytes = bytes; input = refl; defined = same bytes; stands = refl }

-- words that are not in form have their answer whatever the input
pub words_refused : (words : List (List ℕ)) (left : Option (List ℕ)) (count : ℕ) (told : Answer)
    → command_in words ≡ None → told ≡ refused 2 (codes "words refused")
    → TellsAnswer (answer words) left count count told
words_refused words left count told form is = told_always (answer words) left count told (λ bytes. is ∙ ap (λ (command : Option Command). answer_for command bytes) (sym form))

made_always : (command : Command) (told : Answer) (bytes input : List ℕ) → takes_input command ≡ false → told ≡ answer_to command input → told ≡ answer_to command bytes
made_always (Produce lanes senders) told bytes input ignored is = absurd (cc)
made_always (Replay lanes) told bytes input ignored is = absurd (cc)
made_always Show told bytes input ignored is = absurd (cc)
made_always (Make number count run lanes) told bytes input ignored is = is
made_always Assemble told bytes input ignored is = absurd (cc)
made_always list_image told bytes input ignored is = absurd (cc)

-- a command that does not look at its input has its answer whatever it is
pub input_ignored : (command : Command) (left : Option (List ℕ)) (count : ℕ) (input : List ℕ) (told : Answer)
    → takes_input command ≡ false → told ≡ answer_to command input
    → TellsAnswer (answer_to command) left count count told
input_ignored command left count input told ignored is = told_always (answer_to command) left count told (λ bytes. made_always command told bytes input ignored is)

-- ---- inputs that are too long

abbrev too_long_answer : Answer
too_long_answer = input_refused (codes "input: TooLong")

long_refused : (a : Answer) (bytes : List ℕ) → input_limit < length bytes → within bytes a ≡ too_long_answer
long_refused a bytes long = let e : nat_le (length bytes) input_limit ≡ false = grind (arith, nat_tests) in rw e refl

long_answer : (command : Command) (bytes : List ℕ) → takes_input command ≡ true → input_limit < length bytes → answer_to command bytes ≡ too_long_answer
long_answer (Produce lanes senders) bytes looks long = long_refused (produced bytes) bytes long
long_answer (Replay lanes) bytes looks long = long_refused (replayed bytes) bytes long
long_answer Show bytes looks long = long_refused (shown bytes) bytes long
long_answer (Make number count run lanes) bytes looks long = absurd (cc)
long_answer Assemble bytes looks long = long_refused (assembled_answer bytes) bytes long
long_answer list_image bytes looks long = long_refused (listed_answer bytes) bytes long

some_long : (n : ℕ) → (bytes : List ℕ) × (length bytes ≡ n)
some_long n = (replicate n 0, length-replicate n 0)

-- more bytes than the limit are refused for it
pub too_long : (command : Command) (left : Option (List ℕ)) (old new : ℕ) (told : Answer)
    → takes_input command ≡ true → ReadsAll left input_limit (Err TooLong) → new ≡ old → told ≡ too_long_answer
    → TellsAnswer (answer_to command) left old new told
too_long command None old new told looks long stands is =
    let some = some_long (input_limit + 1) in
    let e = some.1 in
    record { bytes = some.0; input = tt; defined = is ∙ sym (long_answer command some.0 looks (omega (arith, e))); stands = stands }
too_long command (Some bytes) old new told looks long stands is =
    record { bytes = bytes; input = refl; defined = is ∙ sym (long_answer command bytes looks long); stands = stands }

-- ---- no defined answer has the status of a source that failed

abbrev IsNoFault : Answer → Type 0
IsNoFault a = a.status ≤ 3

part_no_fault : {X E : Type 0} (text : E → List ℕ) (told : X → Answer) (part : Result X E) → ((x : X) → IsNoFault (told x)) → IsNoFault (unless_refused text told part)
part_no_fault text told (Ok x) each = each x
part_no_fault text told (Err fault) each = omega arith

within_no_fault : (bytes : List ℕ) (a : Answer) → IsNoFault a → IsNoFault (within bytes a)
within_no_fault bytes a is = by_test (nat_le (length bytes) input_limit)
  where
    by_test : (test : Bool) → IsNoFault (cond test a too_long_answer)
    by_test true = is
    by_test false = omega arith

judged_no_fault : (given : Block) (found : Verdict) → IsNoFault (judged given found)
judged_no_fault given Match = omega arith
judged_no_fault given (Differ entry field expected found) = omega arith

made_no_fault : (number count : ℕ) (run : Bool) → IsNoFault (made_answer number count run)
made_no_fault number count true = omega arith
made_no_fault number count false = omega arith

snapshot_no_fault : (told : Snapshot → List ℕ → Answer) (bytes : List ℕ) → ((snapshot : Snapshot) (rest : List ℕ) → IsNoFault (told snapshot rest)) → IsNoFault (after_snapshot told bytes)
snapshot_no_fault told bytes each = part_no_fault snapshot_text _ (prefix_of bytes) (λ (prefix : Prefix). each prefix.snapshot _)

produced_no_fault : (snapshot : Snapshot) (rest : List ℕ) → IsNoFault (produced_after snapshot rest)
produced_no_fault snapshot rest = part_no_fault batch_text _ (batch_of snapshot.slot rest) (λ batch. omega arith)

replayed_no_fault : (snapshot : Snapshot) (rest : List ℕ) → IsNoFault (replayed_after snapshot rest)
replayed_no_fault snapshot rest =
    part_no_fault record_text (replayed_over snapshot) (record_of rest) (λ given. judged_no_fault given (verdict snapshot.slot (newest_of snapshot.recent) given (listed_result snapshot given)))

command_no_fault : (command : Command) (bytes : List ℕ) → IsNoFault (answer_to command bytes)
command_no_fault (Produce lanes senders) bytes = within_no_fault bytes (produced bytes) (snapshot_no_fault produced_after bytes produced_no_fault)
command_no_fault (Replay lanes) bytes = within_no_fault bytes (replayed bytes) (snapshot_no_fault replayed_after bytes replayed_no_fault)
command_no_fault Show bytes = within_no_fault bytes (shown bytes) (part_no_fault record_text _ (record_of bytes) (λ block. omega arith))
command_no_fault (Make number count run lanes) bytes = made_no_fault number count run
command_no_fault Assemble bytes = within_no_fault bytes (assembled_answer bytes) (part_no_fault asm_text _ (assembled bytes) (λ image. omega arith))
command_no_fault list_image bytes = within_no_fault bytes (listed_answer bytes) (part_no_fault list_text _ (listed bytes) (λ text. omega arith))

answer_no_fault : (words : List (List ℕ)) (bytes : List ℕ) → IsNoFault (answer words bytes)
answer_no_fault words bytes = by_command (command_in words)
  where
    by_command : (command : Option Command) → IsNoFault (answer_for command bytes)
    by_command (Some command) = command_no_fault command bytes
    by_command None = omega arith

-- status 4 comes where the source failed, and says so
pub fault_told : (words : List (List ℕ)) (left : Option (List ℕ)) (old new : ℕ) (told : Answer)
    (out out' notes notes' : Option (List ℕ))
    → TellsAnswer (answer words) left old new told ⊎ TellsFault (reads_input words) old new told
    → Writes told out out' notes notes' → told.status ≡ 4 → Rose old new × (reads_input words ≡ true) × Writes read_failed out out' notes notes'
fault_told words left old new told out out' notes notes' (inl t) written four =
    let low : (answer words t.bytes).status ≤ 3 = answer_no_fault words t.bytes in
    let same : told.status ≡ (answer words t.bytes).status = ap (λ (a : Answer). a.status) t.defined in
    absurd (omega (arith, low, same, four))
fault_told words left old new told out out' notes notes' (inr t) written four = (t.rose, t.in_form, subst (λ (a : Answer). Writes a out out' notes notes') t.defined written)

-- what is told has none of the statuses that come only when it is delivered
pub status_told : (words : List (List ℕ)) (left : Option (List ℕ)) (old new : ℕ) (told : Answer)
    → TellsAnswer (answer words) left old new told ⊎ TellsFault (reads_input words) old new told
    → told.status ≤ 4
status_told words left old new told (inl t) =
    let low : (answer words t.bytes).status ≤ 3 = answer_no_fault words t.bytes in
    let same : told.status ≡ (answer words t.bytes).status = ap (λ (a : Answer). a.status) t.defined in
    omega (arith, low, same)
status_told words left old new told (inr t) =
    let same : told.status ≡ 4 = ap (λ (a : Answer). a.status) t.defined in
    omega (arith, same)

-- ---- what is told is written

module _ (words : List (List ℕ)) (left : Option (List ℕ)) (old new : ℕ) (told : Answer) (out out' notes notes' : Option (List ℕ))
    (tells : TellsAnswer (answer words) left old new told ⊎ TellsFault (reads_input words) old new told) where
  -- whole, and no device failed
  pub ends_whole : (status : ℕ) → (status ≡ 4 → ⊥) → (status ≡ told.status) × Writes told out out' notes notes' → EndsWhole words left old new status out out' notes notes'
  ends_whole status good written = elim tells [
    | inl t ↦ record { told = told; tells = t; status_told = written.0; written = written.1 }
    | inr t ↦ absurd (good (written.0 ∙ ap (λ (a : Answer). a.status) t.defined))
  ]

  -- or a front of it
  pub ends_early : Begins told out out' notes notes' → EndsEarly words left old new out out' notes notes' ⊎ FailsEarly words old new out out' notes notes'
  ends_early begun = elim tells [
    | inl t ↦ inl (record { told = told; tells = t; begun = begun })
    | inr t ↦ inr (record { in_form = t.in_form; rose = t.rose; begun = subst (λ (a : Answer). Begins a out out' notes notes') t.defined begun })
  ]

-- a status of its own is never that of a failed sink
pub only_a_sink : {R : Type 0} (status : ℕ) → status ≤ 4 → (status ≡ 5) ⊎ R → R
only_a_sink status low (inl is) = absurd (omega (arith, low, is))
only_a_sink status low (inr rose) = rose

-- ---- memory ran out before anything was written

nothing_begins : (told : Answer) (out notes : Option (List ℕ)) → Begins told out out notes notes
nothing_begins told out notes = record { output_begun = (0, omega arith, Appends-nil out); notes_begun = (0, omega arith, Appends-nil notes); ordered = inl (Keeps-refl notes) }

pub stops : (words : List (List ℕ)) (left : Option (List ℕ)) (old new : ℕ) (out notes : Option (List ℕ))
    → Stops (reads_input words) old new
    → EndsEarly words left old new out out notes notes ⊎ FailsEarly words old new out out notes notes
stops words None old new out notes (inl stands) = inl
    (record {
      told = answer words [];
      tells =
          record { bytes = []; input = tt; defined = refl; stands = stands };
      begun = nothing_begins _ out notes;
    })
stops words (Some bytes) old new out notes (inl stands) = inl
    (record {
      told = answer words bytes;
      tells =
          record { bytes = bytes; input = refl; defined = refl; stands = stands };
      begun = nothing_begins _ out notes;
    })
stops words left old new out notes (inr failed) = inr (record { in_form = failed.0; rose = failed.1; begun = nothing_begins _ out notes })
