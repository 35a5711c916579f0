-- How bytes, numbers and lists are written as JSON, and what stands beside them.
use Rattle.std.specs.Prelude.{ℕ, List, map, codes}
use Rattle.hex.specs.Hex.{encode_lower}
use Rattle.serde_json.specs.Data.{Data, null, boolean, number, unsigned, string, array, object, put}
use Rattle.serde_json.specs.View.{items_of}

-- bytes as hexadecimal digits in lower case
abbrev pub hex_json : List ℕ → Data
hex_json bytes = string (encode_lower bytes)

abbrev pub number_json : ℕ → Data
number_json n = number (unsigned n)

abbrev pub list_json : {X : Type 0} → (X → Data) → List X → Data
list_json one items = array (items_of (map one items))

-- the object with this value as its member `shown`
abbrev pub with_shown : Data → Data → Data
with_shown shown null = null
with_shown shown (boolean b) = boolean b
with_shown shown (number n) = number n
with_shown shown (string s) = string s
with_shown shown (array ds) = array ds
with_shown shown (object ms) = object (put (codes "shown") shown ms)
