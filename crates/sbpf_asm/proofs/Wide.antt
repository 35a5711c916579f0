-- The second slot of `lddw`.
use Rattle.std.proofs.Common.{◌≡◌, ◌<◌, ◌≤◌, ◌+◌, ◌*◌, ◌/◌, ℕ, true, List, length, Some, arith}
use Rattle.std.specs.Prelude.{nat_lt}
use Rattle.std.proofs.lemmas.Bool.Decides.{nat_tests}
use Rattle.sbpf_isa.specs.Rows.{kind_at}
use Rattle.sbpf_isa.specs.Slots.{slot_of}
use Rattle.sbpf_isa.specs.declared.rows.OpKind.TheVariants.{LoadWide}
use Rattle.sbpf_verify.specs.Places.{instruction_at, slot_count}
use Rattle.sbpf_verify.specs.Verified.{IsVerified}
use Rattle.sbpf_verify.proofs.Starts.{second_half}

within : (place n : ℕ) → place + 1 < n / 8 → 8 * (place + 1) + 8 ≤ n
within place n h = omega arith

there : (text : List ℕ) (place : ℕ) → place < slot_count text → kind_at (slot_of text place).opcode ≡ Some LoadWide → instruction_at text place ≡ Some LoadWide
unfolding instruction_at
there text place l h = let t : nat_lt place (slot_count text) ≡ true = grind (arith, nat_tests) in rw t h

-- it lies within the text
pub second_there : (text : List ℕ) (place : ℕ) → IsVerified text → place < slot_count text → kind_at (slot_of text place).opcode ≡ Some LoadWide → 8 * (place + 1) + 8 ≤ length text
second_there text place v l h = within place (length text) (second_half text place v (there text place l h)).0
