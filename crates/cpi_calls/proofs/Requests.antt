-- What requests and grants keep.
use Rattle.std.proofs.Common.{◌≡◌, ℕ, ◌-◌, ◌/◌, ◌≤◌, Bool, true, false, List, [], length, drop, Option, Some, None, Result, Ok, Err, refl, subst, if◌then◌else◌, arith, length-take}
use Rattle.std.specs.Prelude.{◌==◌, nat_lt, slice_index}
use Rattle.std.specs.List.{range_with_len}
use Rattle.std.proofs.lemmas.Bool.Decides.{nat_tests}
use Rattle.std.proofs.lemmas.List.FromFn.{length-range_with_len}
use Rattle.spec_base.specs.Reading.{◌>>=◌, each}
use Rattle.spec_base.proofs.Each.{Counts, each-counts}
use Rattle.sol_base.specs.declared.key.Key.{Key}
use Rattle.sbpf_memory.specs.Memory.{Ranges, read_from, place_of, bytes_at, range_bytes}
use Rattle.sbpf_memory.specs.Reads.{refused_as}
use Rattle.sbpf_memory.specs.declared.place.Place.{Place}
use Rattle.sbpf_memory.specs.declared.fault.AccessViolation.{AccessViolation as Violation}
use Rattle.cpi_calls.specs.declared.request.Call.{Call}
use Rattle.cpi_calls.specs.declared.request.KeyMeta.{KeyMeta}
use Rattle.cpi_calls.specs.declared.request.CallRequest.{CallRequest}
use Rattle.cpi_calls.specs.declared.fault.CallFault.{CallFault}
use Rattle.cpi_calls.specs.declared.fault.CallFault.TheVariants.{UnitsSpent, TooManyAccounts, DataTooLong}
use Rattle.cpi_calls.specs.Limits.{max_metas, max_call_data, call_cost, bytes_of_unit}
use Rattle.cpi_calls.specs.Reads.{bytes_read, violated_by, metas_read, signers_read}
use Rattle.cpi_calls.specs.Calls.{Requested, IsSmallRequest, refused, after_cost, header_read, lists_read, limited, by_header, request_of}

-- a refusal, or a request of a size that is allowed
abbrev Sized : Result CallRequest CallFault → Type 0
Sized (Ok request) = IsSmallRequest request
Sized (Err fault) = Unit {0}

items-count : {Y : Type 0} (one : ℕ → Result Y CallFault) (count : ℕ) → Counts count (each one (range_with_len 0 count))
items-count one count = subst (λ (n : ℕ). Counts n (each one (range_with_len 0 count))) (length-range_with_len 0 count) (each-counts one (range_with_len 0 count))

-- no more bytes are read than are asked for
abbrev AtMost : ℕ → Result (List ℕ) CallFault → Type 0
AtMost len (Ok bytes) = length bytes ≤ len
AtMost len (Err fault) = Unit {0}

place-most : (m : Ranges) (addr len : ℕ) (place : Option Place) → AtMost len (refused_as violated_by (bytes_at m addr len place))
place-most m addr len None = tt
place-most m addr len (Some place) = omega (arith, length-take len (drop place.at (range_bytes m place.region)))

none-most : (len : ℕ) (none : Bool) (r : Result (List ℕ) Violation) → AtMost len (refused_as violated_by r) → AtMost len (refused_as violated_by (if none then Ok [] else r))
none-most len true r most = omega arith
none-most len false r most = most

bytes-most : (m : Ranges) (addr len : ℕ) → AtMost len (bytes_read m addr len)
unfolding read_from
bytes-most m addr len = none-most len (len == 0) (bytes_at m addr len (place_of m addr len)) (place-most m addr len (place_of m addr len))

lists-of : (program : Key) (count len : ℕ) (metas : Result (List KeyMeta) CallFault)
    (input : Result (List ℕ) CallFault) (signers : Result (List Key) CallFault) → Counts count metas
    → AtMost len input → count ≤ max_metas → len ≤ max_call_data
    → Sized (metas >>= (λ ms. input >>= (λ bytes. signers >>= (λ keys. Ok (record { program = program; metas = ms; input = bytes; signers = keys })))))
lists-of program count len (Ok ms) (Ok bytes) (Ok keys) counts most few short = record { metas = omega (arith, counts); input = omega (arith, most) }
lists-of program count len (Ok ms) (Ok bytes) (Err e) counts most few short = tt
lists-of program count len (Ok ms) (Err e) signers counts most few short = tt
lists-of program count len (Err e) input signers counts most few short = tt

lists-sized : (m : Ranges) (caller : Key) (arguments : List ℕ) (program : Key) (call : Call)
    → call.meta_count ≤ max_metas → call.data_len ≤ max_call_data
    → Sized (lists_read m caller arguments program call)
unfolding lists_read
lists-sized m caller arguments program call few short =
    lists-of program call.meta_count call.data_len (metas_read m call.metas call.meta_count)
    (bytes_read m call.data_at call.data_len)
    (signers_read m caller (slice_index arguments 3) (slice_index arguments 4))
    (items-count _ call.meta_count) (bytes-most m call.data_at call.data_len) few short

-- what holds of the answers of a request whose units were some number
record Fits (units : ℕ) (wanted : Requested) : Type 0 where
  left : wanted.units ≤ units
  sized : Sized wanted.answer

fits-more : (units more : ℕ) (wanted : Requested) → units ≤ more → Fits units wanted → Fits more wanted
fits-more units more wanted fewer fits = record { left = let k = fits.left in omega (arith, k); sized = fits.sized }

refused-fits : (units : ℕ) (fault : CallFault) → Fits units (refused units fault)
refused-fits units fault = record { left = omega arith; sized = tt }

cost-fits : (cost units : ℕ) (rest : ℕ → Requested) → Fits (units - cost) (rest (units - cost)) → Fits units (after_cost cost units rest)
cost-fits cost units rest fits = by_case (nat_lt units cost)
  where
    by_case : (spent : Bool) → Fits units (if spent then refused 0 UnitsSpent else rest (units - cost))
    by_case true = record { left = omega arith; sized = tt }
    by_case false = fits-more (units - cost) units (rest (units - cost)) (omega arith) fits

limited-fits : (m : Ranges) (caller : Key) (arguments : List ℕ) (units : ℕ) (header : Call × Key) → Fits units (limited m caller arguments units header)
limited-fits m caller arguments units header = many (nat_lt max_metas header.0.meta_count) refl
  where
    rest : header.0.meta_count ≤ max_metas → header.0.data_len ≤ max_call_data
        → Fits units (after_cost (header.0.data_len / bytes_of_unit) units
        (λ left. record { units = left; answer = lists_read m caller arguments header.1 header.0 }))
    rest few short = cost-fits (header.0.data_len / bytes_of_unit) units
        (λ left. record { units = left; answer = lists_read m caller arguments header.1 header.0 })
        (record { left = omega arith; sized = lists-sized m caller arguments header.1 header.0 few short })

    long : (b : Bool) → nat_lt max_call_data header.0.data_len ≡ b → header.0.meta_count ≤ max_metas
        → Fits units (if b then refused units DataTooLong else after_cost (header.0.data_len / bytes_of_unit)
        units (λ left. record { units = left; answer = lists_read m caller arguments header.1 header.0 }))
    long true h few = refused-fits units DataTooLong
    long false h few = rest few (grind (arith, nat_tests))

    many : (b : Bool) → nat_lt max_metas header.0.meta_count ≡ b
        → Fits units (if b then refused units TooManyAccounts else if nat_lt max_call_data header.0.data_len
        then refused units DataTooLong else after_cost (header.0.data_len / bytes_of_unit) units
        (λ left. record { units = left; answer = lists_read m caller arguments header.1 header.0 }))
    many true h = refused-fits units TooManyAccounts
    many false h = long (nat_lt max_call_data header.0.data_len) refl (grind (arith, nat_tests))

header-fits : (m : Ranges) (caller : Key) (arguments : List ℕ) (units : ℕ) (header : Result (Call × Key) CallFault) → Fits units (by_header m caller arguments units header)
header-fits m caller arguments units (Ok header) = limited-fits m caller arguments units header
header-fits m caller arguments units (Err fault) = refused-fits units fault

request-fits : (arguments : List ℕ) (m : Ranges) (caller : Key) (units : ℕ) → Fits units (request_of arguments m caller units)
unfolding request_of
request-fits arguments m caller units =
    cost-fits call_cost units (λ left. by_header m caller arguments left
    (header_read m (slice_index arguments 0)))
    (header-fits m caller arguments (units - call_cost) (header_read m (slice_index arguments 0)))

-- no request gains units
pub request-units : (arguments : List ℕ) (m : Ranges) (caller : Key) (units : ℕ) → (request_of arguments m caller units).units ≤ units
request-units arguments m caller units = (request-fits arguments m caller units).left

by_answer : (r : Result CallRequest CallFault) (request : CallRequest) → Sized r → r ≡ Ok request → IsSmallRequest request
by_answer (Ok other) request sized h = let e : other ≡ request = cc in subst IsSmallRequest e sized
by_answer (Err fault) request sized h = absurd (cc)

-- a request is small
pub request-small : (arguments : List ℕ) (m : Ranges) (caller : Key) (units : ℕ) (request : CallRequest) → (request_of arguments m caller units).answer ≡ Ok request → IsSmallRequest request
request-small arguments m caller units request h = by_answer (request_of arguments m caller units).answer request (request-fits arguments m caller units).sized h
