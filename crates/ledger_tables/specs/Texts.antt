-- The texts of the tables (the project's own): keys, hashes and signatures as hexadecimal digits, and a
-- list of keys as a JSON array.
use Rattle.std.specs.Prelude.{ℕ, List, [], ◌∷◌, ◌++◌, codes, Option, Some, None}
use Rattle.std.specs.List.{flat_map}
use Rattle.hex.specs.Hex.{encode_lower}
use Rattle.sol_base.specs.declared.key.Key.{Key}
use Rattle.message_codec.specs.declared.message.Signature.{Signature}

abbrev pub Text : Type 0
Text = List ℕ

abbrev pub key_digits : Key → Text
key_digits key = encode_lower key.0

abbrev pub signature_digits : Signature → Text
signature_digits signature = encode_lower signature.0

-- a key in quotes, and null where there is none
abbrev pub key_json : Option Key → Text
key_json None = codes "null"
key_json (Some key) = codes "\"" ++ key_digits key ++ codes "\""

-- the items of an array, with commas between them
abbrev pub others_json : List (Option Key) → Text
others_json keys = flat_map (λ key. codes "," ++ key_json key) keys

abbrev pub items_json : List (Option Key) → Text
items_json [] = []
items_json (key ∷ keys) = key_json key ++ others_json keys

abbrev pub keys_json : List (Option Key) → Text
keys_json keys = codes "[" ++ items_json keys ++ codes "]"
