-- What compute budget instructions ask for (Solana).
use Rattle.std.specs.Prelude.{ℕ, ◌%◌, Bool, ◌&&◌, List, [], ◌∷◌, length, take, ◌==◌, nat_le, slice_get, Option, Some, None, is_some, option_and_then, if◌then◌else◌}
use Rattle.std.specs.List.{filter_map}
use Rattle.std.specs.Option.{option_map}
use Rattle.std.specs.Int.{Width, w32, w64, byte_len, from_le_bytes}
use Rattle.fee_rules.specs.declared.request.TheConstants.{HEAP_FRAME_STEP, MAX_HEAP_FRAME, MIN_HEAP_FRAME}
use Rattle.fee_rules.specs.declared.request.Request.{Request}
use Rattle.fee_rules.specs.declared.request.Request.TheVariants.{HeapFrame, UnitLimit, UnitPrice, LoadedLimit}
use Rattle.fee_rules.specs.declared.request.Asked.{Asked}

-- the little-endian number of that width in front; bytes after it are ignored
abbrev pub number_of : Width → List ℕ → Option ℕ
number_of width bytes =
    if nat_le (byte_len width) (length bytes)
    then Some (from_le_bytes width (take (byte_len width) bytes))
    else None

-- a heap frame is a multiple of the step, from the fewest bytes to the most
abbrev pub is_heap_frame : ℕ → Bool
is_heap_frame bytes =
    bytes % HEAP_FRAME_STEP == 0 && nat_le MIN_HEAP_FRAME bytes && nat_le bytes MAX_HEAP_FRAME

abbrev pub heap_frame_of : ℕ → Option Request
heap_frame_of bytes = if is_heap_frame bytes then Some (HeapFrame bytes) else None

-- a limit of loaded data is not 0
abbrev pub loaded_limit_of : ℕ → Option Request
loaded_limit_of bytes = if bytes == 0 then None else Some (LoadedLimit bytes)

-- the request that the data of an instruction spell: a tag byte and a number
abbrev pub request_of : List ℕ → Option Request
request_of [] = None
request_of (tag ∷ rest) =
    if tag == 1 then option_and_then heap_frame_of (number_of w32 rest) else
    if tag == 2 then option_map UnitLimit (number_of w32 rest) else
    if tag == 3 then option_map UnitPrice (number_of w64 rest) else
    if tag == 4 then option_and_then loaded_limit_of (number_of w32 rest) else
    None

abbrev pub no_request : Asked
no_request = record { heap = None; limit = None; price = None; loaded = None }

-- there is a request of the same kind
abbrev pub has_asked : Asked → Request → Bool
has_asked asked (HeapFrame _) = is_some asked.heap
has_asked asked (UnitLimit _) = is_some asked.limit
has_asked asked (UnitPrice _) = is_some asked.price
has_asked asked (LoadedLimit _) = is_some asked.loaded

-- one more request
abbrev pub asked_with : Asked → Request → Asked
asked_with asked (HeapFrame bytes) = record asked { heap = Some bytes }
asked_with asked (UnitLimit units) = record asked { limit = Some units }
asked_with asked (UnitPrice price) = record asked { price = Some price }
asked_with asked (LoadedLimit bytes) = record asked { loaded = Some bytes }

-- the number of a request, where it is of the kind
abbrev pub heap_in : Request → Option ℕ
heap_in (HeapFrame bytes) = Some bytes
heap_in _ = None

abbrev pub limit_in : Request → Option ℕ
limit_in (UnitLimit units) = Some units
limit_in _ = None

abbrev pub price_in : Request → Option ℕ
price_in (UnitPrice price) = Some price
price_in _ = None

abbrev pub loaded_in : Request → Option ℕ
loaded_in (LoadedLimit bytes) = Some bytes
loaded_in _ = None

-- the first number of a kind
abbrev pub first_asked : (Request → Option ℕ) → List Request → Option ℕ
first_asked kind requests = slice_get (filter_map kind requests) 0

-- what the requests ask for together
abbrev pub asked_of : List Request → Asked
asked_of requests = record {
  heap = first_asked heap_in requests;
  limit = first_asked limit_in requests;
  price = first_asked price_in requests;
  loaded = first_asked loaded_in requests;
}
