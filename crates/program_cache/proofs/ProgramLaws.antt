-- What an account is as a program.
use Rattle.std.proofs.Common.{◌≡◌, ℕ, ◌+◌, ◌≤◌, List, Option, Some, None, Bool, true, false, refl, sym, ap, ◌∙◌, arith}
use Rattle.std.specs.Prelude.{length, if◌then◌else◌}
use Rattle.std.specs.Option.{option_map_or}
use Rattle.sol_base.specs.declared.key.Key.{Key}
use Rattle.sol_base.specs.declared.account.Account.{Account}
use Rattle.account_store.specs.State.{State, get}
use Rattle.sbpf_verify.specs.declared.fault.VerifyFault.{VerifyFault}
use Rattle.sbpf_verify.specs.Images.{ImageParts, image_in}
use Rattle.sbpf_verify.specs.Verified.{unfit, IsVerified}
use Rattle.sbpf_verify.proofs.ImageLaws.{parts_within}
use Rattle.sbpf_verify.proofs.Refusals.{unfit_none, verified_from_none}
use Rattle.program_cache.specs.Ready.{ReadyImage}
use Rattle.program_cache.specs.Programs.{Sought, IsReady, IsAbsent, IsNoProgram, IsBad, IsUnverified, ready_image, judged, image_as, program_in, account_as, sought_in, IsProgramOf}

-- data that are no image
pub program_bad : (bytes : List ℕ) → image_in bytes ≡ None → program_in bytes ≡ IsBad
unfolding program_in
program_bad bytes e = ap image_as e

-- data that are an image with a verified text
pub program_ready : (bytes : List ℕ) (image : ImageParts) → image_in bytes ≡ Some image → IsVerified image.text → program_in bytes ≡ IsReady (ready_image image)
unfolding program_in
program_ready bytes image e v = ap image_as e ∙ ap (judged image) (unfit_none image.text v)

-- an image whose text is verified
pub judged_verified : (image : ImageParts) → IsVerified image.text → judged image (unfit image.text) ≡ IsReady (ready_image image)
judged_verified image v = ap (judged image) (unfit_none image.text v)

-- data that are an image
pub program_image : (bytes : List ℕ) (image : ImageParts) → image_in bytes ≡ Some image → program_in bytes ≡ judged image (unfit image.text)
unfolding program_in
program_image bytes image e = ap image_as e

-- an image's text and constants are no more than the data
pub parts_are_short : (bytes : List ℕ) (image : ImageParts) (most : ℕ) → image_in bytes ≡ Some image → length bytes ≤ most → length image.text + length image.constants ≤ most
parts_are_short bytes image most e h = omega (arith, h, parts_within bytes image e)

pub sought_absent : (s : State) (key : Key) → get s key ≡ None → sought_in s key ≡ IsAbsent
unfolding sought_in
sought_absent s key e = ap (λ (o : Option Account). option_map_or account_as o IsAbsent) e

pub sought_account : (s : State) (key : Key) (account : Account) → get s key ≡ Some account → sought_in s key ≡ account_as account
unfolding sought_in
sought_account s key account e = ap (λ (o : Option Account). option_map_or account_as o IsAbsent) e

-- the ways in which nothing is ready
not_absent : {r : ReadyImage} → IsAbsent ≡ IsReady r → ⊥
not_absent e = cc

not_program : {r : ReadyImage} → IsNoProgram ≡ IsReady r → ⊥
not_program e = cc

not_bad : {r : ReadyImage} → IsBad ≡ IsReady r → ⊥
not_bad e = cc

not_unverified : {fault : VerifyFault} {r : ReadyImage} → IsUnverified fault ≡ IsReady r → ⊥
not_unverified e = cc

same_image : (a b : ReadyImage) → IsReady a ≡ IsReady b → a ≡ b
same_image a b e = cc

judged_ready : (image : ImageParts) (ready : ReadyImage) (o : Option VerifyFault) → unfit image.text ≡ o → judged image o ≡ IsReady ready → IsVerified image.text × (ready ≡ ready_image image)
judged_ready image ready None u e = (verified_from_none image.text u, sym (same_image (ready_image image) ready e))
judged_ready image ready (Some fault) u e = absurd (not_unverified e)

-- what a ready program is read from
record IsReadFrom (bytes : List ℕ) (ready : ReadyImage) : Type 0 where
  image : ImageParts
  read : image_in bytes ≡ Some image
  verified : IsVerified image.text
  ready_as : ready ≡ ready_image image

read_from : (bytes : List ℕ) (ready : ReadyImage) → program_in bytes ≡ IsReady ready → IsReadFrom bytes ready
unfolding program_in
read_from bytes ready e = by_image (image_in bytes) refl e
  where
    by_image : (o : Option ImageParts) → image_in bytes ≡ o → image_as o ≡ IsReady ready → IsReadFrom bytes ready
    by_image None i e = absurd (not_bad e)
    by_image (Some image) i e = let j = judged_ready image ready (unfit image.text) refl e in record { image = image; read = i; verified = j.0; ready_as = j.1 }

by_account : (s : State) (key : Key) (account : Account) (ready : ReadyImage) → get s key ≡ Some account
    → (b : Bool) → account.executable ≡ b
    → (let o : Sought = if b then program_in account.bytes else IsNoProgram in o) ≡ IsReady ready
    → IsProgramOf s key ready
by_account s key account ready there true x e = let r = read_from account.bytes ready e in record {
  account = account;
  image = r.image;
  there = there;
  executable = x;
  read = r.read;
  verified = r.verified;
  ready_as = r.ready_as;
}
by_account s key account ready there false x e = absurd (not_program e)

-- a ready program is that of the account of its key
pub ready_program : (s : State) (key : Key) (ready : ReadyImage) → sought_in s key ≡ IsReady ready → IsProgramOf s key ready
ready_program s key ready e = by_get (get s key) refl
  where
    by_get : (o : Option Account) → get s key ≡ o → IsProgramOf s key ready
    by_get None g = absurd (not_absent (sym (sought_absent s key g) ∙ e))
    by_get (Some account) g = by_account s key account ready g account.executable refl (sym (sought_account s key account g) ∙ e)

-- and the other way round
pub program_is_ready : (s : State) (key : Key) (ready : ReadyImage) → IsProgramOf s key ready → sought_in s key ≡ IsReady ready
program_is_ready s key ready is =
    sought_account s key is.account is.there
    ∙ ap (λ (b : Bool). let o : Sought = if b then program_in is.account.bytes else IsNoProgram in o) is.executable
    ∙ program_ready is.account.bytes is.image is.read is.verified
    ∙ ap (λ (r : ReadyImage). IsReady r) (sym is.ready_as)
