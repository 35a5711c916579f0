-- No access looks at what is prepared or at what was lent.
use Rattle.std.proofs.Common.{◌≡◌, ℕ, ◌==◌, ◌&&◌, Bool, true, false, List, [], length, nat_lt, Option, Some, None, Result, Ok, Err, refl, ap, ◌∙◌, if◌then◌else◌}
use Rattle.std.specs.Int.{to_le_bytes}
use Rattle.sbpf_memory.specs.declared.fault.AccessViolation.{AccessViolation}
use Rattle.sbpf_memory.specs.declared.place.Place.{Place}
use Rattle.sbpf_memory.specs.declared.place.Region.{Region}
use Rattle.sbpf_memory.specs.declared.place.Region.TheVariants.{Program, Stack, Heap, Input}
use Rattle.sbpf_memory.specs.Memory.{Ranges, place_of, bytes_at, read_from, number_in, load_from, width_of, with_bytes_in, with_bytes_at, write_to, store_to, meet, or_overlap, copy_of, copy_to}
use Rattle.sbpf_memory.specs.Plain.{plain_memory, plain_written, plain_copied}

bytes_in_plain : (m : Ranges) (addr len at : ℕ) (region : Region)
    → bytes_at (plain_memory m) addr len (Some (record { region = region; at = at }))
    ≡ bytes_at m addr len (Some (record { region = region; at = at }))
bytes_in_plain m addr len at Program = refl
bytes_in_plain m addr len at Stack = refl
bytes_in_plain m addr len at Heap = refl
bytes_in_plain m addr len at Input = refl

bytes_plain : (m : Ranges) (addr len : ℕ) (place : Option Place) → bytes_at (plain_memory m) addr len place ≡ bytes_at m addr len place
bytes_plain m addr len None = refl
bytes_plain m addr len (Some place) = bytes_in_plain m addr len place.at place.region

pub place-plain : (m : Ranges) (addr len : ℕ) → place_of (plain_memory m) addr len ≡ place_of m addr len
unfolding place_of
place-plain m addr len = refl

or_none : (b : Bool) (x y : Result (List ℕ) AccessViolation) → x ≡ y → (if b then Ok [] else x) ≡ (if b then Ok [] else y)
or_none true x y h = refl
or_none false x y h = h

pub read-plain : (m : Ranges) (addr len : ℕ) → read_from (plain_memory m) addr len ≡ read_from m addr len
unfolding read_from
read-plain m addr len =
    or_none (len == 0) _ _ (ap (bytes_at (plain_memory m) addr len) (place-plain m addr len) ∙ bytes_plain m addr len (place_of m addr len))

pub load-plain : (m : Ranges) (addr width : ℕ) → load_from (plain_memory m) addr width ≡ load_from m addr width
unfolding load_from
load-plain m addr width = ap (number_in width) (read-plain m addr width)

written_in_plain : (m : Ranges) (addr : ℕ) (bytes : List ℕ) (at : ℕ) (region : Region) → with_bytes_in (plain_memory m) addr bytes at region ≡ plain_written (with_bytes_in m addr bytes at region)
written_in_plain m addr bytes at Program = refl
written_in_plain m addr bytes at Stack = refl
written_in_plain m addr bytes at Heap = refl
written_in_plain m addr bytes at Input = refl

written_at_plain : (m : Ranges) (addr : ℕ) (bytes : List ℕ) (place : Option Place) → with_bytes_at (plain_memory m) addr bytes place ≡ plain_written (with_bytes_at m addr bytes place)
written_at_plain m addr bytes None = refl
written_at_plain m addr bytes (Some place) = written_in_plain m addr bytes place.at place.region

or_same : (b : Bool) (m : Ranges) (x y : Result Ranges AccessViolation) → x ≡ plain_written y → (if b then Ok (plain_memory m) else x) ≡ plain_written (if b then Ok m else y)
or_same true m x y h = refl
or_same false m x y h = h

pub write-plain : (m : Ranges) (addr : ℕ) (bytes : List ℕ) → write_to (plain_memory m) addr bytes ≡ plain_written (write_to m addr bytes)
unfolding write_to
write-plain m addr bytes =
    or_same (length bytes == 0) m _ _ (ap (with_bytes_at (plain_memory m) addr bytes) (place-plain m addr (length bytes)) ∙ written_at_plain m addr bytes (place_of m addr (length bytes)))

pub store-plain : (m : Ranges) (addr width value : ℕ) → store_to (plain_memory m) addr width value ≡ plain_written (store_to m addr width value)
unfolding store_to
store-plain m addr width value = write-plain m addr (to_le_bytes (width_of width) value)

overlap_plain : (overlap : Bool) (answer : Result Ranges AccessViolation) → or_overlap overlap (plain_written answer) ≡ plain_copied (or_overlap overlap answer)
overlap_plain overlap (Err v) = refl
overlap_plain true (Ok m) = refl
overlap_plain false (Ok m) = refl

copied_plain : (m : Ranges) (to : ℕ) (overlap : Bool) (answer : Result (List ℕ) AccessViolation) → copy_of (plain_memory m) to overlap answer ≡ plain_copied (copy_of m to overlap answer)
copied_plain m to overlap (Err v) = refl
copied_plain m to overlap (Ok bytes) = ap (or_overlap overlap) (write-plain m to bytes) ∙ overlap_plain overlap (write_to m to bytes)

pub copy-plain : (m : Ranges) (to from len : ℕ) (apart : Bool) → copy_to (plain_memory m) to from len apart ≡ plain_copied (copy_to m to from len apart)
unfolding copy_to
copy-plain m to from len apart =
    ap (copy_of (plain_memory m) to (apart && nat_lt 0 len && meet to from len)) (read-plain m from len) ∙ copied_plain m to (apart && nat_lt 0 len && meet to from len) (read_from m from len)

pub ruleset plain = (read-plain, write-plain, copy-plain)
