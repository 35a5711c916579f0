-- What is read of a cross-program call (the structures of the C interface).
use Rattle.std.specs.Prelude.{ℕ, ◌+◌, ◌*◌, ◌%◌, ◌^◌, ◌==◌, Bool, true, false, nat_lt, List, slice_index, Result, Ok, Err, if◌then◌else◌}
use Rattle.std.specs.List.{range_with_len}
use Rattle.spec_base.specs.Reading.{◌>>=◌, each}
use Rattle.spec_base.specs.Bytes.{number_from}
use Rattle.sol_base.specs.declared.key.Key.{Key}
use Rattle.sol_base.specs.declared.derived.SeedsFault.{SeedsFault}
use Rattle.sol_base.specs.DerivedKeys.{max_seed_len, max_seeds, program_key_of}
use Rattle.sbpf_memory.specs.Memory.{Ranges}
use Rattle.sbpf_memory.specs.Reads.{bytes_or}
use Rattle.sbpf_memory.specs.declared.fault.AccessViolation.{AccessViolation as Violation}
use Rattle.cpi_calls.specs.Limits.{max_signers}
use Rattle.cpi_calls.specs.declared.request.KeyMeta.{KeyMeta}
use Rattle.cpi_calls.specs.declared.request.Call.{Call}
use Rattle.cpi_calls.specs.declared.fault.CallFault.{CallFault}
use Rattle.cpi_calls.specs.declared.fault.CallFault.TheVariants.{AccessViolation, BadFlag, BadSeeds, TooManySigners, OutOfMemory as no_memory}

-- out of memory, which no input shows
abbrev pub is_call_memory : CallFault → Bool
is_call_memory no_memory = true
is_call_memory _ = false

-- an access that is refused
abbrev pub violated_by : Violation → CallFault
violated_by violation = AccessViolation violation

-- the bytes of a range of addresses
abbrev pub bytes_read : Ranges → ℕ → ℕ → Result (List ℕ) CallFault
bytes_read m addr len = bytes_or violated_by m addr len

-- the bytes of a call, and of each item of a list
abbrev pub call_len : ℕ
call_len = 40

abbrev pub item_len : ℕ
item_len = 16

-- The address of an item of a list. Addresses wrap, as those of a program do.
abbrev pub item_at : ℕ → ℕ → ℕ
item_at list index = (list + item_len * index) % 2 ^ 64

-- the items of a list, read by their addresses
abbrev pub items_read : {Y : Type 0} → (ℕ → Result Y CallFault) → ℕ → ℕ → Result (List Y) CallFault
items_read one list count = each (λ index. one (item_at list index)) (range_with_len 0 count)

-- the five numbers of a call: the program key's address, and the addresses and counts of metas and
-- data
abbrev pub call_in : List ℕ → Call
call_in bytes = record {
  program = number_from bytes 0;
  metas = number_from bytes 8;
  meta_count = number_from bytes 16;
  data_at = number_from bytes 24;
  data_len = number_from bytes 32;
}

-- a flag is 0 or 1
abbrev pub flag : ℕ → Result Bool CallFault
flag byte = if byte == 0 then Ok false else if byte == 1 then Ok true else Err BadFlag

-- a meta: its flags are tested before its key is read
unfoldable pub meta_read : Ranges → ℕ → Result KeyMeta CallFault
meta_read m addr = do
  bytes ← bytes_read m addr item_len
  writable ← flag (slice_index bytes 8)
  signer ← flag (slice_index bytes 9)
  key ← bytes_read m (number_from bytes 0) 32
  Ok (record { key = record { 0 = key }; signer = signer; writable = writable })

abbrev pub metas_read : Ranges → ℕ → ℕ → Result (List KeyMeta) CallFault
metas_read m list count = items_read (meta_read m) list count

-- a seed: its length is tested before its bytes are read
unfoldable pub seed_read : Ranges → ℕ → Result (List ℕ) CallFault
seed_read m addr = do
  bytes ← bytes_read m addr item_len
  if nat_lt max_seed_len (number_from bytes 8) then Err BadSeeds
      else bytes_read m (number_from bytes 0) (number_from bytes 8)

abbrev pub or_bad_seeds : Result Key SeedsFault → Result Key CallFault
or_bad_seeds (Ok key) = Ok key
or_bad_seeds (Err fault) = Err BadSeeds

abbrev pub seeds_read : Ranges → ℕ → ℕ → Result (List (List ℕ)) CallFault
seeds_read m list count =
    if nat_lt max_seeds count then Err BadSeeds else items_read (seed_read m) list count

-- a signer: the program key of its seeds and the caller
unfoldable pub signer_read : Ranges → Key → ℕ → Result Key CallFault
signer_read m caller addr = do
  bytes ← bytes_read m addr item_len
  seeds ← seeds_read m (number_from bytes 0) (number_from bytes 8)
  or_bad_seeds (program_key_of seeds caller)

abbrev pub signers_read : Ranges → Key → ℕ → ℕ → Result (List Key) CallFault
signers_read m caller list count =
    if nat_lt max_signers count then Err TooManySigners
    else items_read (signer_read m caller) list count
