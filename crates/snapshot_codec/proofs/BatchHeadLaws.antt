-- A batch has as many transactions as it says before them.
use Rattle.sol_base.specs.Limits.{max_transactions}
use Rattle.std.proofs.Common.{◌≡◌, ◌<◌, ◌^◌, ℕ, List, ◌++◌, length, Some, false, refl, ap, ◌∙◌, append_assoc, lit<, nat_lt, arith}
use Rattle.std.specs.Prelude.{codes}
use Rattle.std.specs.Int.{w32, w64, to_le_bytes}
use Rattle.std.specs.List.{flat_map}
use Rattle.std.proofs.lemmas.Bool.Decides.{nat_tests}
use Rattle.std.proofs.lemmas.List.{length-append, drop_at}
use Rattle.spec_base.specs.Bytes.{sized_bytes}
use Rattle.spec_base.proofs.Formats.{u32_reads}
use Rattle.sol_base.specs.Keys.{IsKey, key_bytes}
use Rattle.format_fields.proofs.Sized.{count_fits}
use Rattle.snapshot_codec.specs.declared.fault.SnapshotFault.TheVariants.{Truncated}
use Rattle.snapshot_codec.specs.declared.batch.Batch.{Batch}
use Rattle.snapshot_codec.specs.Batch.{batch_bytes, IsBatch}
use Rattle.snapshot_codec.specs.Length.{behind, count_in_front}
use Rattle.snapshot_codec.specs.BatchHead.{told_count}
use Rattle.snapshot_codec.proofs.LengthLaws.{number_counts}

behind_front : (front rest : List ℕ) (n : ℕ) → length front ≡ n → behind n (front ++ rest) ≡ Some rest
unfolding behind
behind_front front rest n h = rw (enough, drop_at front rest n h) refl
  where
    enough : nat_lt (length (front ++ rest)) n ≡ false
    enough = grind (arith, nat_tests, length-append front rest)

-- magic, slot and collector
abbrev head : Batch → List ℕ
head b = codes "SOLBATC1" ++ to_le_bytes w64 b.slot ++ key_bytes b.collector

head_len : (b : Batch) → IsKey b.collector → length (head b) ≡ 48
head_len b is =
    let all = length-append (codes "SOLBATC1" ++ to_le_bytes w64 b.slot) (key_bytes b.collector) in
    let two : length (codes "SOLBATC1" ++ to_le_bytes w64 b.slot) ≡ 16 = refl in
    omega (arith, all, two, is)

told_of : (b : Batch) → IsKey b.collector → length b.wires < 2 ^ 32 → told_count (batch_bytes b) ≡ Some (length b.wires)
unfolding told_count
told_of b is few =
    let count = length b.wires in
    let wires = flat_map sized_bytes b.wires in
    let counted = to_le_bytes w32 count ++ wires in
    let apart : batch_bytes b ≡ head b ++ counted = append_assoc (head b) (to_le_bytes w32 count) wires in
    let stands : behind 48 (batch_bytes b) ≡ Some counted = ap (behind 48) apart ∙ behind_front (head b) counted 48 (head_len b is) in
    let told : count_in_front counted ≡ Some (count, wires) = number_counts 0 counted count wires ((u32_reads Truncated 0).again count wires few) in
    rw (stands, told) refl

pub told : (before : ℕ) (bytes : List ℕ) (b : Batch) → IsBatch before bytes b → told_count bytes ≡ Some (length b.wires)
told before bytes b is =
    ap told_count is.spelled ∙ told_of b is.collector (count_fits max_transactions (length b.wires) (lit< tt) is.few).0
