-- The request of a cross-program call, with limits and costs of the project's own.
use Rattle.std.specs.Prelude.{◌≡◌, ℕ, ◌-◌, ◌/◌, ◌≤◌, nat_lt, List, length, slice_index, Result, Ok, Err, if◌then◌else◌}
use Rattle.spec_base.specs.Reading.{◌>>=◌}
use Rattle.sol_base.specs.declared.key.Key.{Key}
use Rattle.sbpf_memory.specs.Memory.{Ranges}
use Rattle.cpi_calls.specs.declared.request.Call.{Call}
use Rattle.cpi_calls.specs.declared.request.CallRequest.{CallRequest}
use Rattle.cpi_calls.specs.declared.fault.CallFault.{CallFault}
use Rattle.cpi_calls.specs.declared.fault.CallFault.TheVariants.{TooManyAccounts, DataTooLong, UnitsSpent, OutOfMemory as no_memory}
use Rattle.cpi_calls.specs.Limits.{max_metas, max_call_data, call_cost, bytes_of_unit}
use Rattle.cpi_calls.specs.Reads.{bytes_read, call_in, call_len, metas_read, signers_read}

-- the units then left, and the request or the first refusal
pub record Requested : Type 0 where
  pub units : ℕ
  pub answer : Result CallRequest CallFault

-- a refusal, with the units then left
abbrev pub refused : ℕ → CallFault → Requested
refused units fault = record { units = units; answer = Err fault }

-- units are taken; where fewer are left they become 0
abbrev pub after_cost : ℕ → ℕ → (ℕ → Requested) → Requested
after_cost cost units rest = if nat_lt units cost then refused 0 UnitsSpent else rest (units - cost)

-- a call and the key of its program
unfoldable pub header_read : Ranges → ℕ → Result (Call × Key) CallFault
header_read m addr = do
  bytes ← bytes_read m addr call_len
  key ← bytes_read m (call_in bytes).program 32
  Ok (call_in bytes, record { 0 = key })

-- the lists of a call, read in order
unfoldable pub lists_read : Ranges → Key → List ℕ → Key → Call → Result CallRequest CallFault
lists_read m caller arguments program call = do
  metas ← metas_read m call.metas call.meta_count
  input ← bytes_read m call.data_at call.data_len
  signers ← signers_read m caller (slice_index arguments 3) (slice_index arguments 4)
  Ok (record { program = program; metas = metas; input = input; signers = signers })

abbrev pub limited : Ranges → Key → List ℕ → ℕ → Call × Key → Requested
limited m caller arguments units header =
    let call = header.0 in
    if nat_lt max_metas call.meta_count then refused units TooManyAccounts else
    if nat_lt max_call_data call.data_len then refused units DataTooLong else
    after_cost (call.data_len / bytes_of_unit) units
    (λ left. record { units = left; answer = lists_read m caller arguments header.1 call })

abbrev pub by_header : Ranges → Key → List ℕ → ℕ → Result (Call × Key) CallFault → Requested
by_header m caller arguments units (Ok header) = limited m caller arguments units header
by_header m caller arguments units (Err fault) = refused units fault

-- The request of a call, by its arguments r1, r4 and r5: of the memory it looks at the bytes alone.
unfoldable pub request_of : List ℕ → Ranges → Key → ℕ → Requested
request_of arguments m caller units =
    after_cost call_cost units
    (λ left. by_header m caller arguments left (header_read m (slice_index arguments 0)))

-- what a call answers, by the request that is asked for
abbrev pub Reads : Requested → ℕ → Result CallRequest CallFault → Type 0
Reads wanted units (Ok request) = (wanted.answer ≡ Ok request) × (wanted.units ≡ units)
Reads wanted units (Err no_memory) = Unit {0}
Reads wanted units (Err fault) = (wanted.answer ≡ Err fault) × (wanted.units ≡ units)

-- what holds of each request
pub record IsSmallRequest (request : CallRequest) : Type 0 where
  pub metas : length request.metas ≤ max_metas
  pub input : length request.input ≤ max_call_data
