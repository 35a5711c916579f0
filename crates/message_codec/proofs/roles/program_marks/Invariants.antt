use Rattle.std.proofs.Common.{◌≡◌, ℕ, false, length, take}
use Rattle.std.specs.List.{slice_index_or}
use Rattle.message_codec.specs.Roles.{is_program}
use Rattle.message_codec.proofs.roles.program_marks.Given as goal

-- the programs of the instructions so far
abbrev pub invariant-loop-instruction : goal.invariant-loop-instruction
invariant-loop-instruction l = record {
  long : length l.marks ≡ 256;
  marked : (i : ℕ) → slice_index_or l.marks i false ≡ is_program (take l.instruction-index l.instructions) i;
}
