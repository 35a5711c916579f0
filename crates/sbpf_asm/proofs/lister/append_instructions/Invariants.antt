use Rattle.std.proofs.Common.{◌≡◌, ◌++◌, ◌-◌}
use Rattle.std.specs.List.{flat_map, range_with_len}
use Rattle.sbpf_asm.specs.Listing.{slot_line, instruction_lines}
use Rattle.sbpf_asm.proofs.lister.append_instructions.Given as goal

abbrev pub invariant-loop-place : goal.invariant-loop-place
invariant-loop-place l = l.out ++ flat_map (slot_line l.text) (range_with_len l.place (l.place-end - l.place)) ≡ l.fn.out ++ instruction_lines l.text
