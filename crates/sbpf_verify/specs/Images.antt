-- Program images: a text with its constants, as the data of an account (the project's own format).
use Rattle.std.specs.Prelude.{◌≡◌, ◌<◌, ◌^◌, ◌%◌, ℕ, ◌+◌, ◌*◌, ◌/◌, List, ◌++◌, length, take, drop, codes, bytes_eq, Option, Some, None, if◌then◌else◌}
use Rattle.std.specs.Int.{w32, from_le_bytes, to_le_bytes}

-- a program image: its text and its constants
pub record ImageParts : Type 0 where
  pub text : List ℕ
  pub constants : List ℕ

-- an image that can be written: its text has whole slots, and both counts fit in 32 bits
pub record IsWritable (image : ImageParts) : Type 0 where
  pub whole_slots : length image.text % 8 ≡ 0
  pub slots_fit : length image.text / 8 < 2 ^ 32
  pub constants_fit : length image.constants < 2 ^ 32

-- the bytes of an image: magic, number of slots, number of constant bytes, text, constants
abbrev pub image_bytes : ImageParts → List ℕ
image_bytes image =
    codes "SBPFIMG1" ++ to_le_bytes w32 (length image.text / 8)
    ++ to_le_bytes w32 (length image.constants) ++ image.text ++ image.constants

-- the number of slots that bytes name, if they are an image
abbrev pub slots_named : List ℕ → ℕ
slots_named bytes = from_le_bytes w32 (take 4 (drop 8 bytes))

-- the number of constant bytes that they name
abbrev pub constants_named : List ℕ → ℕ
constants_named bytes = from_le_bytes w32 (take 4 (drop 12 bytes))

-- the parts that stand behind the two numbers
abbrev pub parts_named : List ℕ → ImageParts
parts_named bytes = record {
  text = take (8 * slots_named bytes) (drop 16 bytes);
  constants = take (constants_named bytes) (drop (16 + 8 * slots_named bytes) bytes);
}

-- the parts, where the bytes are an image: those of the parts that they name, and nothing more
unfoldable pub image_in : List ℕ → Option ImageParts
image_in bytes =
    if bytes_eq bytes (image_bytes (parts_named bytes)) then Some (parts_named bytes) else None
