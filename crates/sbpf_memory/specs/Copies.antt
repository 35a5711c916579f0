-- Copies from one place of a memory to another.
use Rattle.std.specs.Prelude.{◌≡◌, ◌≢◌, ◌≤◌, ◌+◌, ℕ, List, length, take, drop, Some}
use Rattle.spec_base.specs.Bytes.{with_bytes}
use Rattle.sbpf_memory.specs.declared.place.Region.{Region}
use Rattle.sbpf_memory.specs.declared.place.Region.TheVariants.{Program, Stack, Heap, Input}
use Rattle.sbpf_memory.specs.declared.place.Place.{Place}
use Rattle.sbpf_memory.specs.Memory.{Ranges, place_of, range_bytes, with_stack, with_heap, with_input_bytes}

-- len bytes from a place on
abbrev pub bytes_of_place : Ranges → Place → ℕ → List ℕ
bytes_of_place m place len = take len (drop place.at (range_bytes m place.region))

-- with other bytes at a place of a range that is written
abbrev pub written_in : Ranges → List ℕ → ℕ → Region → Ranges
written_in m bytes at Program = m
written_in m bytes at Stack = with_stack m (with_bytes m.stack at bytes)
written_in m bytes at Heap = with_heap m (with_bytes m.heap at bytes)
written_in m bytes at Input = with_input_bytes m at bytes

abbrev pub copied_in : Ranges → Place → Place → ℕ → Ranges
copied_in m to from len = written_in m (bytes_of_place m from len) to.at to.region

-- where a write of len bytes lies that is not refused
pub record IsTarget (m : Ranges) (addr len : ℕ) (place : Place) : Type 0 where
  pub found : place_of m addr len ≡ Some place
  pub within : place.at + len ≤ length (range_bytes m place.region)
  pub free : place.region ≢ Program
