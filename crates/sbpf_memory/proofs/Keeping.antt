-- What a write keeps.
use Rattle.std.proofs.Common.{◌≡◌, ℕ, ◌≤◌, List, [], ◌∷◌, length, Option, Some, None, Ok, IfOk, refl, sym, ◌∙◌, subst, arith}
use Rattle.data_parts.proofs.PartLaws.{length_with}
use Rattle.sbpf_memory.specs.declared.place.Place.{Place}
use Rattle.sbpf_memory.specs.declared.place.Region.{Region}
use Rattle.sbpf_memory.specs.declared.place.Region.TheVariants.{Program, Stack, Heap, Input}
use Rattle.sbpf_memory.specs.Memory.{Ranges, place_of, with_bytes_in, with_bytes_at, write_to}
use Rattle.sbpf_memory.proofs.Addresses.{RoomIn, stands-from_place}
use Rattle.sbpf_memory.proofs.Writing.{write-some, write-nothing}

-- the program, how long heap and input are, and the notes of what is prepared and what was lent
pub record Kept (m after : Ranges) : Type 0 where
  pub program : after.program ≡ m.program
  pub heap : length after.heap ≡ length m.heap
  pub input : length after.input.bytes ≡ length m.input.bytes
  pub prepared : after.input.prepared ≡ m.input.prepared
  pub lent : after.input.lent ≡ m.input.lent

all_kept : (m : Ranges) → Kept m m
all_kept m = record { program = refl; heap = refl; input = refl; prepared = refl; lent = refl }

kept_in : (m : Ranges) (addr : ℕ) (bytes : List ℕ) (at : ℕ) (region : Region) → RoomIn m (length bytes) at region → IfOk (with_bytes_in m addr bytes at region) (λ after. Kept m after)
kept_in m addr bytes at Program room = tt
kept_in m addr bytes at Stack room = record { program = refl; heap = refl; input = refl; prepared = refl; lent = refl }
kept_in m addr bytes at Heap room = record { program = refl; heap = length_with m.heap bytes at room; input = refl; prepared = refl; lent = refl }
kept_in m addr bytes at Input room = record { program = refl; heap = refl; input = length_with m.input.bytes bytes at room; prepared = refl; lent = refl }

kept_at : (m : Ranges) (addr : ℕ) (bytes : List ℕ) (place : Option Place) → 1 ≤ length bytes → place_of m addr (length bytes) ≡ place → IfOk (with_bytes_at m addr bytes place) (λ after. Kept m after)
kept_at m addr bytes None some found = tt
kept_at m addr bytes (Some place) some found = kept_in m addr bytes place.at place.region (stands-from_place m addr (length bytes) place some found).room

pub nothing-kept : (m after : Ranges) (addr : ℕ) → write_to m addr [] ≡ Ok after → m ≡ after
nothing-kept m after addr write = let done = sym (write-nothing m addr) ∙ write in cc

pub write-kept : (m after : Ranges) (addr : ℕ) (bytes : List ℕ) → write_to m addr bytes ≡ Ok after → Kept m after
write-kept m after addr [] write = subst (λ x. Kept m x) (nothing-kept m after addr write) (all_kept m)
write-kept m after addr (b ∷ bs) write =
    let bytes = b ∷ bs in
    let place = place_of m addr (length bytes) in
    let done : with_bytes_at m addr bytes place ≡ Ok after = sym (write-some m addr bytes place (omega arith) refl) ∙ write in
    subst (λ r. IfOk r (λ x. Kept m x)) done (kept_at m addr bytes place (omega arith) refl)

-- so each access lies where it lay
pub kept-place : (m after : Ranges) (addr len : ℕ) → Kept m after → place_of after addr len ≡ place_of m addr len
unfolding place_of
kept-place m after addr len kept = rw (kept.program, kept.heap, kept.input)
