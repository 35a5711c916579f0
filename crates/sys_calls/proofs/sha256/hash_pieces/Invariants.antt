use Rattle.std.proofs.Common.{◌-◌, ◌≤◌, ◌++◌, ℕ, List, take}
use Rattle.sha2.specs.Hashers.{Holds256}
use Rattle.sbpf_memory.specs.Plain.{plain_memory}
use Rattle.sys_calls.specs.Access.{held}
use Rattle.sys_calls.proofs.sha256.hash_pieces.Given as goal

-- the bytes so far are hashed
abbrev pub invariant-loop-at : goal.invariant-loop-at
invariant-loop-at l = record {
  within : l.at ≤ l.slice.len;
  hashes : (hashed : List ℕ) → Holds256 l.initial.hasher hashed → Holds256 l.hasher (hashed ++ take l.at (held (plain_memory l.memory) l.slice.addr l.slice.len));
}

abbrev pub decreases-loop-at : goal.decreases-loop-at
decreases-loop-at l = l.slice.len - l.at
