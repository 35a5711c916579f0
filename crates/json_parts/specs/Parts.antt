-- What the values of JSON texts stand for: numbers, flags, digits, members and lists.
use Rattle.std.specs.Prelude.{ℕ, ◌+◌, List, [], ◌∷◌, ◌++◌, length, nat_lt, nat_le, bytes_eq, is_some, codes, Bool, if◌then◌else◌, ◌&&◌, Option, Some, None, option_and_then, ok_or, Ok, Err}
use Rattle.std.specs.Result.{result_ok}
use Rattle.std.specs.List.{list_all, list_any}
use Rattle.std.specs.Char.{is_ascii_hexdigit}
use Rattle.spec_base.specs.Reading.{◌>>=◌}
use Rattle.hex.specs.Hex.{decode_sized, decode_of}
use Rattle.base64.specs.Engines.{standard}
use Rattle.base64.specs.GeneralPurpose.{decoded_of}
use Rattle.serde_json.specs.Data.{Data, Members, no_members, member, Items, no_items, item}
use Rattle.serde_json.specs.Find.{get, as_number, as_u64, as_bool, as_str, as_array, as_object}
use Rattle.json_parts.specs.declared.fault.Step.TheVariants.{Member, Item}
use Rattle.json_parts.specs.declared.fault.Wanted.{Wanted}
use Rattle.json_parts.specs.declared.fault.Wanted.TheVariants.{Object, Array, Number, Digits, DigitCount, Bytes, Flag, Presence, Absence, Instruction}
use Rattle.json_parts.specs.declared.fault.JsonFault.TheVariants.{Refused}
use Rattle.json_parts.specs.Faults.{Read, within}

-- what was found, where something else is wanted at this value
abbrev pub or_refused : {X : Type 0} → Option X → Wanted → Read X
or_refused found wanted = ok_or found (Refused [] wanted)

-- the number, where it lies between the two
abbrev pub if_between : ℕ → ℕ → ℕ → Option ℕ
if_between least most n = if nat_le least n && nat_le n most then Some n else None

-- a number from the least to the greatest
unfoldable pub number_in : ℕ → ℕ → Data → Read ℕ
number_in least most d =
    or_refused
    (option_and_then (if_between least most) (option_and_then as_u64 (as_number d)))
    (Number least most)

-- hexadecimal digits, in either case, and nothing else
abbrev pub is_digits : List ℕ → Bool
is_digits text = nat_lt 0 (length text) && list_all is_ascii_hexdigit text

-- what is wanted in place of a text that stands for no so many bytes
abbrev pub digits_wanted : ℕ → List ℕ → Wanted
digits_wanted count text =
    if is_digits text then DigitCount count (length text) else Digits count

-- so many bytes as hexadecimal digits, in either case
unfoldable pub digits_in : ℕ → Data → Read (List ℕ)
digits_in count d = do
  text ← or_refused (as_str d) (Digits count)
  or_refused (result_ok (decode_sized text count)) (digits_wanted count text)

unfoldable pub flag_in : Data → Read Bool
flag_in d = or_refused (as_bool d) Flag

-- no more bytes than these
abbrev pub if_short : ℕ → List ℕ → Option (List ℕ)
if_short most bytes = if nat_le (length bytes) most then Some bytes else None

-- the bytes of hexadecimal digits, in either case
abbrev pub hex_bytes : List ℕ → Option (List ℕ)
hex_bytes text = result_ok (decode_of text)

-- the bytes of a text in base64 with its padding (RFC 4648, section 4)
abbrev pub base64_bytes : List ℕ → Option (List ℕ)
base64_bytes text = decoded_of standard text

-- the bytes of a text as they are
abbrev pub text_bytes : List ℕ → Option (List ℕ)
text_bytes text = Some text

-- no more bytes than these, as a text that is read so
unfoldable pub spelled_in : (List ℕ → Option (List ℕ)) → ℕ → Data → Read (List ℕ)
spelled_in bytes_of most d =
    or_refused
    (option_and_then (if_short most) (option_and_then bytes_of (as_str d)))
    (Bytes most)

-- the member of that name
unfoldable pub found_in : List ℕ → Data → Read Data
found_in name d = ok_or (get name d) (Refused (Member name ∷ []) Presence)

-- what the member of that name stands for
unfoldable pub member_in : {X : Type 0} → List ℕ → (Data → Read X) → Data → Read X
member_in name one d = do
  found ← found_in name d
  within (Member name) (one found)

-- one of the names
abbrev pub has_name : List (List ℕ) → List ℕ → Bool
has_name names name = list_any (λ one. bytes_eq one name) names

-- the first member of another name is refused, and the refusal has the names
abbrev pub names_in : List (List ℕ) → Members → Read Unit
names_in names no_members = Ok tt
names_in names (member name d ms) =
    if has_name names name then names_in names ms
    else Err (Refused (Member name ∷ []) (Absence names))

-- an object whose members have no other names
unfoldable pub known_in : List (List ℕ) → Data → Read Unit
known_in names d = or_refused (as_object d) Object >>= names_in names

-- the text of the member of that name is one of the names of instructions
unfoldable pub one_of : List ℕ → List (List ℕ) → List ℕ → Read Unit
one_of program names text =
    if has_name names text then Ok tt else Err (Refused (Member program ∷ []) (Instruction names))

-- the one member of an object
unfoldable pub alone_in : {X : Type 0} → List ℕ → (Data → Read X) → Data → Read X
alone_in name one d = do
  known ← known_in (name ∷ []) d
  member_in name one d

-- No more bytes than these: hexadecimal digits, or an object whose one member `hex`, `base64` or
-- `text` says how they are spelled.
unfoldable pub data_in : ℕ → Data → Read (List ℕ)
data_in most d =
    if is_some (get (codes "hex") d) then alone_in (codes "hex") (spelled_in hex_bytes most) d
    else if is_some (get (codes "base64") d) then
    alone_in (codes "base64") (spelled_in base64_bytes most) d
    else if is_some (get (codes "text") d) then
    alone_in (codes "text") (spelled_in text_bytes most) d
    else spelled_in hex_bytes most d

-- the items of an array
abbrev pub data_of : Items → List Data
data_of no_items = []
data_of (item d ds) = d ∷ data_of ds

-- the lists that items stand for, one after the other, the first at this place
unfoldable pub items_in : {X : Type 0} → (Data → Read (List X)) → ℕ → List Data → Read (List X)
items_in one at [] = Ok []
items_in one at (d ∷ ds) = do
  part ← within (Item at) (one d)
  more ← items_in one (at + 1) ds
  Ok (part ++ more)

-- no more items than these
abbrev pub if_few : ℕ → Items → Option (List Data)
if_few most items = if nat_le (length (data_of items)) most then Some (data_of items) else None

-- the items of an array
unfoldable pub array_in : ℕ → Data → Read (List Data)
array_in most d = or_refused (option_and_then (if_few most) (as_array d)) (Array most)

-- how many items an array has, and the bytes that they stand for
unfoldable pub list_in : ℕ → (Data → Read (List ℕ)) → Data → Read (ℕ × List ℕ)
list_in most one d = do
  items ← array_in most d
  bytes ← items_in one 0 items
  Ok (length items, bytes)
