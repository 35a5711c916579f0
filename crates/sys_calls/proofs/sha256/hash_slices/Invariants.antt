use Rattle.std.proofs.Common.{◌≡◌, ℕ, List, drop}
use Rattle.sha2.specs.Hashers.{Holds256}
use Rattle.sbpf_memory.specs.Plain.{plain_memory}
use Rattle.sys_calls.specs.Slices.{gathered, before}
use Rattle.sys_calls.proofs.sha256.hash_slices.Given as goal

-- what was gathered and what is left give what the whole gives
abbrev pub invariant-loop-slice : goal.invariant-loop-slice
invariant-loop-slice l = record {
  done : List ℕ;
  hashes : Holds256 l.hasher done;
  same : before done (gathered (plain_memory l.memory) l.units (drop l.slice-index l.slices)) ≡ gathered (plain_memory l.initial.memory) l.initial.units l.slices;
  memory : l.memory ≡ l.initial.memory;
}
