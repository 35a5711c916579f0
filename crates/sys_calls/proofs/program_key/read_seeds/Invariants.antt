use Rattle.std.proofs.Common.{◌≡◌, drop}
use Rattle.spec_base.proofs.Each.{joined}
use Rattle.sbpf_memory.specs.Plain.{plain_memory}
use Rattle.sys_calls.specs.Slices.{all_read}
use Rattle.sys_calls.proofs.program_key.read_seeds.Given as goal

-- what was read and what is left give what the whole gives
abbrev pub invariant-loop-slice : goal.invariant-loop-slice
invariant-loop-slice l = joined l.seeds (all_read (plain_memory l.memory) (drop l.slice-index l.slices)) ≡ all_read (plain_memory l.memory) l.slices
