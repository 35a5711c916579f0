-- The first difference between a record and the block that its entries give when they run again
-- (the project's own).
use Rattle.std.specs.Prelude.{ℕ, ◌==◌, Bool, nat_eq, nat_lt, List, [], ◌∷◌, ◌++◌, codes, length, drop, slice_get, unwrap_or, if◌then◌else◌}
use Rattle.std.specs.List.{flat_map, enumerate_from, zip}
use Rattle.std.specs.Int.{w64, to_le_bytes}
use Rattle.std.specs.Cmp.Lexicographic.{pointwise}
use Rattle.sol_base.specs.Keys.{same_hash, hash_bytes}
use Rattle.sol_base.specs.declared.key.Hash32.{Hash32}
use Rattle.tx_report.specs.Statuses.{status_bytes_of}
use Rattle.block_record.specs.Record.{bytes_of_lines}
use Rattle.block_record.specs.declared.block.Entry.{Entry}
use Rattle.block_record.specs.declared.block.Block.{Block}
use Rattle.block_record.specs.declared.block.Listed.{Listed}
use Rattle.block_replay.specs.declared.verdict.Field.{Field}
use Rattle.block_replay.specs.declared.verdict.Field.TheVariants.{Slot, Previous, Admission, Status, Units, Fee, Lines, Burned, Collected, State, Hash}
use Rattle.block_replay.specs.declared.verdict.Verdict.{Verdict}
use Rattle.block_replay.specs.declared.verdict.Verdict.TheVariants.{Match, Differ}

-- what stands in the place of an entry where the block's own fields differ
abbrev pub of_block : ℕ
of_block = 4294967295

abbrev pub name_of : Field → List ℕ
name_of Slot = codes "slot"
name_of Previous = codes "previous"
name_of Admission = codes "admission"
name_of Status = codes "status"
name_of Units = codes "units"
name_of Fee = codes "fee"
name_of Lines = codes "lines"
name_of Burned = codes "burned"
name_of Collected = codes "collected"
name_of State = codes "state"
name_of Hash = codes "hash"

-- no difference, or one: what the replay gives is expected, what the record has is found
abbrev pub unless : Bool → ℕ → Field → List ℕ → List ℕ → List Verdict
unless same entry field expected found = if same then [] else Differ entry field expected found ∷ []

-- whether bytes are equal, and whether lines are
abbrev pub same_bytes : List ℕ → List ℕ → Bool
same_bytes expected found = pointwise nat_eq expected found

abbrev pub same_lines : List (List ℕ) → List (List ℕ) → Bool
same_lines expected found = pointwise same_bytes expected found

abbrev pub in_number : ℕ → Field → ℕ → ℕ → List Verdict
in_number entry field expected found =
    unless (expected == found) entry field (to_le_bytes w64 expected) (to_le_bytes w64 found)

abbrev pub in_hash : ℕ → Field → Hash32 → Hash32 → List Verdict
in_hash entry field expected found =
    unless (same_hash expected found) entry field (hash_bytes expected) (hash_bytes found)

-- what stands before the entries: the record's slot is above the snapshot's, and the block before
-- is the snapshot's newest
abbrev pub head_differences : ℕ → Hash32 → Block → List Verdict
head_differences slot newest given =
    unless (nat_lt slot given.slot) of_block Slot (to_le_bytes w64 slot)
    (to_le_bytes w64 given.slot)
    ++ in_hash of_block Previous newest given.previous

abbrev pub in_status : ℕ → Entry → Entry → List Verdict
in_status place given replayed =
    let expected = status_bytes_of replayed.status in
    let found = status_bytes_of given.status in
    unless (same_bytes expected found) place Status expected found

abbrev pub in_lines : ℕ → Entry → Entry → List Verdict
in_lines place given replayed =
    unless (same_lines replayed.lines given.lines) place Lines (bytes_of_lines replayed.lines)
    (bytes_of_lines given.lines)

-- an entry of the record beside the replayed one
abbrev pub entry_differences : ℕ × (Entry × Entry) → List Verdict
entry_differences (place, (given, replayed)) =
    in_status place given replayed
    ++ in_number place Units replayed.units given.units
    ++ in_number place Fee replayed.fee given.fee
    ++ in_lines place given replayed

abbrev pub entries_differences : List Entry → List Entry → List Verdict
entries_differences given replayed =
    flat_map entry_differences (enumerate_from 0 (zip given replayed))

-- the first entry that did not run, since it is not admitted
abbrev pub refused_entry : ℕ → List Entry → List Verdict
refused_entry place [] = []
refused_entry place (entry ∷ _) = Differ place Admission [] entry.wire ∷ []

-- what stands behind the entries
abbrev pub tail_differences : Block → Block → List Verdict
tail_differences given replayed =
    in_number of_block Burned replayed.burned given.burned
    ++ in_number of_block Collected replayed.collected given.collected
    ++ in_hash of_block State replayed.state given.state
    ++ in_hash of_block Hash replayed.hash given.hash

-- all differences, in the order of the record
abbrev pub differences : ℕ → Hash32 → Block → Block → List Verdict
differences slot newest given replayed =
    head_differences slot newest given
    ++ entries_differences given.entries replayed.entries
    ++ refused_entry (length replayed.entries) (drop (length replayed.entries) given.entries)
    ++ tail_differences given replayed

-- the first of them, or none
unfoldable pub verdict : ℕ → Hash32 → Block → Listed → Verdict
verdict slot newest given listed =
    unwrap_or (slice_get (differences slot newest given listed.block) 0) Match
