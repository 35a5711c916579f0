use Rattle.std.proofs.Common.{◌≡◌, ◌++◌, ◌-◌}
use Rattle.std.specs.List.{flat_map, range_with_len}
use Rattle.sbpf_asm.specs.Listing.{constant_line, constant_lines}
use Rattle.sbpf_asm.proofs.lister.append_constants.Given as goal

abbrev pub invariant-loop-line : goal.invariant-loop-line
invariant-loop-line l = l.out ++ flat_map (constant_line l.constants) (range_with_len l.line (l.line-end - l.line)) ≡ l.fn.out ++ constant_lines l.constants
