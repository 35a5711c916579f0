-- Buffers, in which a program is written piece by piece: a magic, the key of an authority and an
-- image (the project's own).
use Rattle.std.specs.Prelude.{ℕ, ◌==◌, ◌&&◌, not, Bool, true, false, List, length, take, drop, codes, nat_eq, nat_le, Option, Some, None, is_none, if◌then◌else◌}
use Rattle.std.specs.List.{list_any, starts_with}
use Rattle.sol_base.specs.declared.key.Key.{Key}
use Rattle.sbpf_verify.specs.Images.{ImageParts, image_in}
use Rattle.sbpf_verify.specs.Verified.{unfit}
use Rattle.loader_prog.specs.declared.image.Candidate.{Candidate}
use Rattle.loader_prog.specs.declared.image.Candidate.TheVariants.{NoImage, Unverified, Verified}

-- what a buffer begins with, and what it begins with once it is final
abbrev pub buffer_magic : List ℕ
buffer_magic = codes "SBPFBUF1"

abbrev pub final_magic : List ℕ
final_magic = codes "SBPFFIN1"

-- where the key of the authority stands, and where the image begins
abbrev pub authority_at : ℕ
authority_at = 8

abbrev pub image_at : ℕ
image_at = 40

-- data with room for a magic and an authority, that begin with the magic
abbrev pub begins_with : List ℕ → List ℕ → Bool
begins_with magic bytes = nat_le image_at (length bytes) && starts_with nat_eq bytes magic

abbrev pub is_buffer : List ℕ → Bool
is_buffer bytes = begins_with buffer_magic bytes

abbrev pub is_final : List ℕ → Bool
is_final bytes = begins_with final_magic bytes

abbrev pub has_byte : List ℕ → Bool
has_byte bytes = list_any (λ byte. not (byte == 0)) bytes

-- no byte is set where the magic stands
abbrev pub is_blank : List ℕ → Bool
is_blank bytes = not (has_byte (take authority_at bytes))

-- the authority of a buffer
abbrev pub authority_in : List ℕ → Key
authority_in bytes = record { 0 = take 32 (drop authority_at bytes) }

-- the image of a buffer
abbrev pub rest_in : List ℕ → List ℕ
rest_in bytes = drop image_at bytes

abbrev pub by_image : Option ImageParts → Candidate
by_image None = NoImage
by_image (Some image) = if is_none (unfit image.text) then Verified else Unverified

-- what bytes are as a program: no image, an image that the verifier refuses, or one with a verified
-- text
abbrev pub candidate_in : List ℕ → Candidate
candidate_in bytes = by_image (image_in bytes)

abbrev pub is_verified : Candidate → Bool
is_verified Verified = true
is_verified _ = false
