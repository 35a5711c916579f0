-- Inputs of commands that take a snapshot and what stands behind it.
use Rattle.std.proofs.Common.{◌≡◌, ◌≤◌, ℕ, Bool, true, false, List, [], ◌∷◌, ◌++◌, length, map, take, drop, refl, sym, arith}
use Rattle.std.specs.Prelude.{nat_le, codes, if◌then◌else◌}
use Rattle.std.specs.Int.{w16, w32, w64, to_le_bytes}
use Rattle.std.specs.List.{AllByRecursion, flat_map}
use Rattle.std.proofs.lemmas.Bool.Decides.{nat_tests}
use Rattle.std.proofs.lemmas.List.{take-append-drop}
use Rattle.spec_base.specs.Bytes.{IsBytes, sized_bytes}
use Rattle.spec_base.proofs.Binding.{after_bytes, before_bytes}
use Rattle.sol_base.specs.Keys.{hash_bytes, key_bytes}
use Rattle.tx_report.specs.Statuses.{status_bytes_of}
use Rattle.command_parts.specs.declared.answer.Answer.{Answer}
use Rattle.block_record.specs.declared.block.Block.{Block}
use Rattle.block_record.specs.declared.block.Entry.{Entry}
use Rattle.block_record.specs.Record.{block_bytes, bytes_of_lines, bytes_of_record, entries_bytes, entry_bytes, front_bytes}
use Rattle.block_run.specs.Blocks.{wires_of}
use Rattle.bank_cli.specs.Answer.{input_limit, input_refused, within}

-- ---- the limit of an input
pub within_limit : (bytes : List ℕ) (answer : Answer) → length bytes ≤ input_limit → within bytes answer ≡ answer
within_limit bytes answer short = go (nat_le (length bytes) input_limit) (grind (arith, nat_tests))
  where
    go : (b : Bool) → b ≡ true → (if b then answer else input_refused (codes "input: TooLong")) ≡ answer
    go true e = refl
    go false e = absurd (cc)

-- an answer of status 0 is to an input within the limit
pub not_refused : (bytes : List ℕ) (answer : Answer) → (within bytes answer).status ≡ 0 → within bytes answer ≡ answer
not_refused bytes answer = go (nat_le (length bytes) input_limit)
  where
    go : (b : Bool) → (let a : Answer = if b then answer else input_refused (codes "input: TooLong") in a.status) ≡ 0
        → (if b then answer else input_refused (codes "input: TooLong")) ≡ answer
    go true h = refl
    go false h = absurd (omega (arith, h))

-- ---- bytes
pub bytes_behind : (bytes : List ℕ) (n : ℕ) → IsBytes bytes → IsBytes (drop n bytes)
bytes_behind bytes n are = after_bytes bytes (take n bytes) (drop n bytes) are (sym (take-append-drop n bytes))

entries_are_bytes : (entries : List Entry) → IsBytes (flat_map entry_bytes entries) → AllByRecursion IsBytes (map (λ (entry : Entry). entry.wire) entries)
entries_are_bytes [] are = tt
entries_are_bytes (e ∷ entries) are =
    let own = before_bytes (entry_bytes e) (flat_map entry_bytes entries) are in
    let to_lines = before_bytes (sized_bytes e.wire ++ status_bytes_of e.status ++ to_le_bytes w64 e.units ++ to_le_bytes w64 e.fee) (bytes_of_lines e.lines) own in
    let to_fee = before_bytes (sized_bytes e.wire ++ status_bytes_of e.status ++ to_le_bytes w64 e.units) (to_le_bytes w64 e.fee) to_lines in
    let to_units = before_bytes (sized_bytes e.wire ++ status_bytes_of e.status) (to_le_bytes w64 e.units) to_fee in
    let wire = after_bytes _ (to_le_bytes w16 (length e.wire)) e.wire (before_bytes (sized_bytes e.wire) (status_bytes_of e.status) to_units) refl in
    (wire, entries_are_bytes entries (after_bytes _ (entry_bytes e) (flat_map entry_bytes entries) are refl))

-- the transactions of a record are bytes where all of it is
pub record_wires_are_bytes : (bytes : List ℕ) (b : Block) → IsBytes bytes → bytes ≡ bytes_of_record b → AllByRecursion IsBytes (wires_of b)
record_wires_are_bytes bytes b are spelled =
    let whole : IsBytes (bytes_of_record b) = after_bytes bytes [] (bytes_of_record b) are spelled in
    let to_hash = before_bytes (block_bytes b) (hash_bytes b.hash) whole in
    let to_state = before_bytes (front_bytes b ++ to_le_bytes w64 b.burned ++ to_le_bytes w64 b.collected) (hash_bytes b.state) to_hash in
    let to_collected = before_bytes (front_bytes b ++ to_le_bytes w64 b.burned) (to_le_bytes w64 b.collected) to_state in
    let front = before_bytes (front_bytes b) (to_le_bytes w64 b.burned) to_collected in
    let entries = after_bytes _ (codes "SOLBLCK1" ++ to_le_bytes w64 b.slot ++ key_bytes b.collector ++ hash_bytes b.previous) (entries_bytes b.entries) front refl in
    entries_are_bytes b.entries (after_bytes _ (to_le_bytes w32 (length b.entries)) (flat_map entry_bytes b.entries) entries refl)
