-- A memory at the start.
use Rattle.std.proofs.Common.{◌≡◌, ℕ, List, replicate}
use Rattle.data_parts.specs.Parts.{Content}
use Rattle.sbpf_memory.specs.Memory.{Ranges}

abbrev pub ranges_of : List ℕ → List ℕ → List ℕ → Content → Ranges
ranges_of program stack heap input = record { program = program; stack = stack; heap = heap; input = input }

pub fresh-zeros : (program : List ℕ) (stack heap : List ℕ) (input : Content) (count size : ℕ) → stack ≡ replicate count 0 → heap ≡ replicate size 0
    → ranges_of program stack heap input ≡ ranges_of program (replicate count 0) (replicate size 0) input
fresh-zeros program stack heap input count size zero_stack zero_heap = rw (zero_stack, zero_heap)
