-- The texts of notes and lines (the project's own). No note says that memory ran out.
use Rattle.std.specs.Prelude.{ℕ, List, [], ◌∷◌, ◌++◌, ◌==◌, codes, if◌then◌else◌}
use Rattle.std.specs.Fmt.{decimal}
use Rattle.std.specs.List.{flat_map}
use Rattle.hex.specs.Hex.{encode_lower}
use Rattle.snapshot_codec.specs.declared.fault.SnapshotFault.{SnapshotFault}
use Rattle.snapshot_codec.specs.declared.fault.SnapshotFault.TheVariants as snapshot
use Rattle.snapshot_codec.specs.declared.fault.BatchFault.{BatchFault}
use Rattle.snapshot_codec.specs.declared.fault.BatchFault.TheVariants as batch
use Rattle.block_record.specs.declared.fault.RecordFault.{RecordFault}
use Rattle.block_record.specs.declared.fault.RecordFault.TheVariants as block
use Rattle.sbpf_verify.specs.declared.fault.VerifyFault.{VerifyFault}
use Rattle.sbpf_verify.specs.declared.fault.VerifyFault.TheVariants as verify
use Rattle.sbpf_asm.specs.declared.fault.AsmFault.{AsmFault}
use Rattle.sbpf_asm.specs.declared.fault.AsmFault.TheVariants as asm
use Rattle.sbpf_asm.specs.declared.fault.ListFault.{ListFault}
use Rattle.sbpf_asm.specs.declared.fault.ListFault.TheVariants as image
use Rattle.admission.specs.declared.refusal.Refused.{Refused}
use Rattle.admission.specs.Refusals.{at_place, text_of}
use Rattle.block_replay.specs.Verdict.{name_of, of_block}
use Rattle.block_replay.specs.declared.verdict.Field.{Field}

-- a text and a line feed
abbrev pub line : List ℕ → List ℕ
line text = text ++ 10 ∷ []

-- ---- refusals of the input; places count from the first byte of the part

abbrev pub snapshot_text : SnapshotFault → List ℕ
snapshot_text snapshot.Magic = codes "snapshot: Magic"
snapshot_text (snapshot.Truncated at) = at_place (codes "snapshot: Truncated") at
snapshot_text (snapshot.BadField at) = at_place (codes "snapshot: BadField") at
snapshot_text (snapshot.OutOfOrder at) = at_place (codes "snapshot: OutOfOrder") at
snapshot_text (snapshot.Empty at) = at_place (codes "snapshot: Empty") at
snapshot_text snapshot.SupplyTooLarge = codes "snapshot: SupplyTooLarge"
snapshot_text snapshot.TooManyAccounts = codes "snapshot: TooManyAccounts"
snapshot_text (snapshot.DataTooLong at) = at_place (codes "snapshot: DataTooLong") at
snapshot_text snapshot.OutOfMemory = []

abbrev pub batch_text : BatchFault → List ℕ
batch_text batch.Magic = codes "batch: Magic"
batch_text (batch.Truncated at) = at_place (codes "batch: Truncated") at
batch_text batch.TooMany = codes "batch: TooMany"
batch_text (batch.Trailing at) = at_place (codes "batch: Trailing") at
batch_text batch.SlotNotLater = codes "batch: SlotNotLater"
batch_text batch.OutOfMemory = []

abbrev pub record_text : RecordFault → List ℕ
record_text (block.Truncated at) = at_place (codes "record: Truncated") at
record_text (block.BadField at) = at_place (codes "record: BadField") at
record_text (block.Trailing at) = at_place (codes "record: Trailing") at
record_text block.OutOfMemory = []

-- a rule of the verifier, and the slot that breaks it
abbrev pub verify_text : VerifyFault → List ℕ
verify_text verify.Length = codes "Length"
verify_text (verify.Opcode at) = at_place (codes "Opcode") at
verify_text (verify.Register at) = at_place (codes "Register") at
verify_text (verify.WritesFrame at) = at_place (codes "WritesFrame") at
verify_text (verify.ZeroDivisor at) = at_place (codes "ZeroDivisor") at
verify_text (verify.Shift at) = at_place (codes "Shift") at
verify_text (verify.HalfWide at) = at_place (codes "HalfWide") at
verify_text (verify.Jump at) = at_place (codes "Jump") at
verify_text (verify.Helper at) = at_place (codes "Helper") at
verify_text verify.OpenEnd = codes "OpenEnd"
verify_text (verify.Field at) = at_place (codes "Field") at

-- a text of the assembler is refused at a line
abbrev pub asm_text : AsmFault → List ℕ
asm_text (asm.NotText at) = at_place (codes "asm: NotText") at
asm_text (asm.Syntax at) = at_place (codes "asm: Syntax") at
asm_text (asm.Range at) = at_place (codes "asm: Range") at
asm_text (asm.RepeatedLabel at) = at_place (codes "asm: RepeatedLabel") at
asm_text (asm.UnknownLabel at) = at_place (codes "asm: UnknownLabel") at
asm_text asm.TooLong = codes "asm: TooLong"
asm_text (asm.Unverified fault) = codes "asm: Unverified " ++ verify_text fault
asm_text asm.OutOfMemory = []

abbrev pub list_text : ListFault → List ℕ
list_text image.BadImage = codes "list: BadImage"
list_text (image.Unverified fault) = codes "list: Unverified " ++ verify_text fault
list_text image.OutOfMemory = []

-- ---- lines

-- a transaction that did not run, and why
abbrev pub refused_line : Refused → List ℕ
refused_line refused =
    line (codes "refused " ++ decimal refused.position ++ codes ": " ++ text_of refused.cause)

abbrev pub refused_lines : List Refused → List ℕ
refused_lines refused = flat_map refused_line refused

-- the record with this block hash is what its entries give
abbrev pub match_line : List ℕ → List ℕ
match_line hash = line (codes "match " ++ encode_lower hash)

-- where a record differs: a field of the block, or of an entry
abbrev pub place_text : ℕ → List ℕ
place_text entry = if entry == of_block then codes "block" else codes "entry " ++ decimal entry

abbrev pub differ_line : ℕ → Field → List ℕ
differ_line entry field = line (codes "differ " ++ place_text entry ++ codes " " ++ name_of field)
