-- Program images as JSON (the project's own form), and the bytes that such JSON stands for.
use Rattle.std.specs.Prelude.{ℕ, ◌-◌, ◌*◌, ◌^◌, List, [], ◌∷◌, codes, Option, Some, None, Ok, Err}
use Rattle.spec_base.specs.Reading.{◌>>=◌}
use Rattle.serde_json.specs.Data.{Data, object, member, no_members}
use Rattle.sbpf_verify.specs.Images.{ImageParts, image_bytes, image_in}
use Rattle.json_parts.specs.declared.fault.JsonFault.TheVariants.{BadImage}
use Rattle.json_parts.specs.Faults.{Read}
use Rattle.json_parts.specs.Written.{hex_json}
use Rattle.json_parts.specs.Parts.{data_in, member_in, known_in}

abbrev pub image_json : ImageParts → Data
image_json image =
    object (member (codes "constants") (hex_json image.constants)
    (member (codes "text") (hex_json image.text) no_members))

abbrev pub json_by_image : Option ImageParts → Read Data
json_by_image (Some image) = Ok (image_json image)
json_by_image None = Err BadImage

-- the JSON of the image that the bytes are
unfoldable pub data_of_image : List ℕ → Read Data
data_of_image bytes = json_by_image (image_in bytes)

abbrev pub image_names : List (List ℕ)
image_names = codes "constants" ∷ codes "text" ∷ []

-- the bytes that the members spell
unfoldable pub spelled_in : Data → Read (List ℕ)
spelled_in d = do
  known ← known_in image_names d
  text ← member_in (codes "text") (data_in (8 * (2 ^ 32 - 1))) d
  constants ← member_in (codes "constants") (data_in (2 ^ 32 - 1)) d
  Ok (image_bytes (record { text = text; constants = constants }))

-- the bytes, where they are an image
abbrev pub if_image : List ℕ → Option ImageParts → Read (List ℕ)
if_image bytes (Some image) = Ok bytes
if_image bytes None = Err BadImage

-- the bytes of the image that the JSON is
unfoldable pub image_of_data : Data → Read (List ℕ)
image_of_data d = do
  bytes ← spelled_in d
  if_image bytes (image_in bytes)
