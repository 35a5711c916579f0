-- Lists of slices: an address and a length each, 8 bytes both (the C interface).
use Rattle.std.specs.Prelude.{ℕ, ◌+◌, ◌*◌, ◌-◌, ◌/◌, max, Bool, List, [], ◌∷◌, ◌++◌, map, nat_lt, Result, Ok, Err, if◌then◌else◌}
use Rattle.std.specs.List.{range_with_len, list_any}
use Rattle.sha2.specs.Sha256.{sha256}
use Rattle.spec_base.specs.Reading.{◌>>=◌, each}
use Rattle.spec_base.specs.Bytes.{number_from}
use Rattle.sol_base.specs.DerivedKeys.{max_seed_len}
use Rattle.sbpf_memory.specs.Memory.{Ranges}
use Rattle.sys_calls.specs.declared.slices.Slice.{Slice}
use Rattle.sys_calls.specs.declared.slices.TheConstants.{SLICE_LEN}
use Rattle.sys_calls.specs.declared.fault.SysFault.{SysFault}
use Rattle.sys_calls.specs.declared.fault.SysFault.TheVariants.{UnitsSpent}
use Rattle.sys_calls.specs.Access.{bytes_read}
use Rattle.sys_calls.specs.declared.table.TheConstants.{MIN_BYTES_COST}

-- the bytes of a slice in a list
abbrev pub slice_len : ℕ
slice_len = SLICE_LEN

-- the slice that stands at an index
abbrev pub slice_at : List ℕ → ℕ → Slice
slice_at bytes index =
    let at = slice_len * index in
    record { addr = number_from bytes at; len = number_from bytes (at + 8) }

-- the slices of a list of count, which is read whole
unfoldable pub slices_read : Ranges → ℕ → ℕ → Result (List Slice) SysFault
slices_read m at count = do
  bytes ← bytes_read m at (slice_len * count)
  Ok (map (slice_at bytes) (range_with_len 0 count))

-- a slice has more bytes than a seed may have
abbrev pub has_long_slice : List Slice → Bool
has_long_slice slices = list_any (λ slice. nat_lt max_seed_len slice.len) slices

-- the bytes of each slice, read in order
abbrev pub all_read : Ranges → List Slice → Result (List (List ℕ)) SysFault
all_read m slices = each (λ slice. bytes_read m slice.addr slice.len) slices

-- the units then left, and the bytes of all slices one after another, or the first refusal
pub record Gathered : Type 0 where
  pub units : ℕ
  pub bytes : Result (List ℕ) SysFault

-- what a slice costs
abbrev pub slice_cost : ℕ → ℕ
slice_cost len = max (len / 2) MIN_BYTES_COST

abbrev pub before : List ℕ → Gathered → Gathered
before bytes rest = record rest { bytes = rest.bytes >>= (λ more. Ok (bytes ++ more)) }

abbrev pub after_read : ℕ → Result (List ℕ) SysFault → Gathered → Gathered
after_read units (Ok bytes) rest = before bytes rest
after_read units (Err fault) rest = record { units = units; bytes = Err fault }

-- a slice is charged and then read
abbrev pub slice_read : Ranges → ℕ → Slice → Result (List ℕ) SysFault
slice_read m units slice =
    if nat_lt units (slice_cost slice.len) then Err UnitsSpent
    else bytes_read m slice.addr slice.len

-- each slice is charged and read in order; where fewer units are left than one costs, they become 0
unfoldable pub gathered : Ranges → ℕ → List Slice → Gathered
gathered m units [] = record { units = units; bytes = Ok [] }
gathered m units (slice ∷ slices) =
    let left = units - slice_cost slice.len in
    after_read left (slice_read m units slice) (gathered m left slices)

-- the hash of what was gathered (FIPS 180-4)
abbrev pub hash_of : Result (List ℕ) SysFault → Result (List ℕ) SysFault
hash_of gathered = do
  bytes ← gathered
  Ok (sha256 bytes)
