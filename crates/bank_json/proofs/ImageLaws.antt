-- Program images in JSON: what is written stands for the bytes that it was made of.
use Rattle.std.proofs.Common.{◌≡◌, ◌≤◌, ◌/◌, ◌*◌, ◌+◌, ◌-◌, ◌^◌, ℕ, List, ◌++◌, length, take, drop, Option, Some, None, Ok, refl, sym, ap, subst, ◌∙◌, arith}
use Rattle.std.specs.Prelude.{codes}
use Rattle.std.specs.Int.{w32, to_le_bytes}
use Rattle.std.proofs.lemmas.List.{length-take}
use Rattle.spec_base.specs.Bytes.{IsBytes}
use Rattle.spec_base.proofs.Binding.{before_bytes, after_bytes, part_bytes, ok_same}
use Rattle.spec_base.proofs.Formats.{u32_below}
use Rattle.sbpf_verify.specs.Images.{ImageParts, image_bytes, slots_named, constants_named, parts_named, image_in}
use Rattle.sbpf_verify.proofs.ImageLaws.{parts_of_image, written}
use Rattle.serde_json.specs.Data.{Data}
use Rattle.json_parts.specs.Written.{hex_json}
use Rattle.json_parts.specs.Parts.{data_in, known_in}
use Rattle.bank_json.specs.ImageJson.{image_json, json_by_image, data_of_image, spelled_in, image_of_data}
use Rattle.json_parts.proofs.Again.{data_again, member_again}

fields_again : (image : ImageParts) → length image.text ≤ 8 * (2 ^ 32 - 1) → length image.constants ≤ 2 ^ 32 - 1 → IsBytes (image_bytes image) → spelled_in (image_json image) ≡ Ok (image_bytes image)
unfolding spelled_in known_in
fields_again image text_short constants_short are =
    let d = image_json image in
    let head = codes "SBPFIMG1" ++ to_le_bytes w32 (length image.text / 8) ++ to_le_bytes w32 (length image.constants) in
    let text_are = after_bytes _ head image.text (before_bytes (head ++ image.text) image.constants are) refl in
    let constants_are = after_bytes _ (head ++ image.text) image.constants are refl in
    rw (
      member_again (codes "text") (data_in (8 * (2 ^ 32 - 1))) d (hex_json image.text) image.text refl (data_again (8 * (2 ^ 32 - 1)) image.text text_short text_are),
      member_again (codes "constants") (data_in (2 ^ 32 - 1)) d (hex_json image.constants) image.constants refl (data_again (2 ^ 32 - 1) image.constants constants_short constants_are),
    ) refl

text_short : (bytes : List ℕ) → IsBytes bytes → length (parts_named bytes).text ≤ 8 * (2 ^ 32 - 1)
text_short bytes are =
    let below = u32_below (take 4 (drop 8 bytes)) (part_bytes 4 8 bytes are) in
    omega (arith, below, length-take (8 * slots_named bytes) (drop 16 bytes))

constants_short : (bytes : List ℕ) → IsBytes bytes → length (parts_named bytes).constants ≤ 2 ^ 32 - 1
constants_short bytes are =
    let below = u32_below (take 4 (drop 12 bytes)) (part_bytes 4 12 bytes are) in
    omega (arith, below, length-take (constants_named bytes) (drop (16 + 8 * slots_named bytes) bytes))

all_again : (bytes : List ℕ) (image : ImageParts) → IsBytes bytes → image_in bytes ≡ Some image → image_of_data (image_json image) ≡ Ok bytes
unfolding image_of_data
all_again bytes image are read =
    let same = written bytes image read in
    let parts = parts_of_image bytes image read in
    let short = subst (λ (i : ImageParts). length i.text ≤ 8 * (2 ^ 32 - 1)) parts (text_short bytes are) in
    let few = subst (λ (i : ImageParts). length i.constants ≤ 2 ^ 32 - 1) parts (constants_short bytes are) in
    let spelled = fields_again image short few (subst IsBytes same are) ∙ ap Ok (sym same) in
    rw (spelled, read) refl

pub images_again : (bytes : List ℕ) (d : Data) → IsBytes bytes → data_of_image bytes ≡ Ok d → image_of_data d ≡ Ok bytes
unfolding data_of_image
images_again bytes d are shown = by_image (image_in bytes) refl shown
  where
    by_image : (r : Option ImageParts) → image_in bytes ≡ r → json_by_image r ≡ Ok d → image_of_data d ≡ Ok bytes
    by_image (Some image) read h = subst (λ (e : Data). image_of_data e ≡ Ok bytes) (ok_same _ _ h) (all_again bytes image are read)
    by_image None read h = absurd (cc)
