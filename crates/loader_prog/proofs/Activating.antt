-- What an activated account holds.
use Rattle.std.proofs.Common.{◌≡◌, Bool, true, false, not, ◌&&◌, List, ℕ, Option, Some, None, cond, refl, sym, ap, ◌∙◌}
use Rattle.std.specs.Prelude.{is_none, unwrap_or}
use Rattle.std.proofs.lemmas.Bool.{and_parts}
use Rattle.std.proofs.lemmas.Option.{same_Some}
use Rattle.sol_base.specs.declared.key.TheConstants.{LOADER_PROGRAM}
use Rattle.sol_base.specs.declared.account.Account.{Account}
use Rattle.sol_base.specs.Keys.{same_key}
use Rattle.sbpf_verify.specs.declared.fault.VerifyFault.{VerifyFault}
use Rattle.sbpf_verify.specs.Images.{ImageParts, image_in}
use Rattle.sbpf_verify.specs.Verified.{IsVerified, unfit}
use Rattle.sbpf_verify.proofs.Refusals.{verified_from_none}
use Rattle.loader_prog.specs.Buffers.{by_image, candidate_in, is_final, is_verified, rest_in}
use Rattle.loader_prog.specs.Loader.{activated, active, is_ready}
use Rattle.loader_prog.specs.declared.image.Candidate.TheVariants.{Unverified, Verified}
use Rattle.loader_prog.specs.Laws.{IsActivated}

none_is : (fault : Option VerifyFault) → is_none fault ≡ true → fault ≡ None
none_is None h = refl
none_is (Some fault) h = absurd (cc)

-- an image with a verified text
record Holds (bytes : List ℕ) : Type 0 where
  image : ImageParts
  holds : image_in bytes ≡ Some image
  verified : IsVerified image.text

by_parts : (bytes : List ℕ) (parts : Option ImageParts) → image_in bytes ≡ parts → is_verified (by_image parts) ≡ true → Holds bytes
by_parts bytes None is h = absurd (cc)
by_parts bytes (Some image) is h = record { image = image; holds = is; verified = verified_from_none image.text (none_is (unfit image.text) (by_test (is_none (unfit image.text)) refl h)) }
  where
    by_test : (t : Bool) → is_none (unfit image.text) ≡ t → is_verified (by_image (Some image)) ≡ true → is_none (unfit image.text) ≡ true
    by_test true is h = is
    by_test false is h = let other = ap (λ (t : Bool). is_verified (cond t Verified Unverified)) (sym is) ∙ h in absurd (cc)

activated_by : (account after : Account) (t : Bool) → is_ready account ≡ t
    → cond t (Some (record account { executable = true; bytes = rest_in account.bytes })) None ≡ Some after
    → IsActivated account after
activated_by account after true ready h =
    let program : Account = record account { executable = true; bytes = rest_in account.bytes } in
    let same : program ≡ after = same_Some program after h in
    let parts = and_parts (same_key account.owner LOADER_PROGRAM && not account.executable && is_final account.bytes) (is_verified (candidate_in (rest_in account.bytes))) ready in
    let held = by_parts (rest_in account.bytes) (image_in (rest_in account.bytes)) refl parts.1 in
    record {
      lamports = ap (λ (a : Account). a.lamports) (sym same);
      owner = ap (λ (a : Account). a.owner) (sym same);
      executable = ap (λ (a : Account). a.executable) (sym same);
      image = held.image;
      holds = ap (λ (a : Account). image_in a.bytes) (sym same) ∙ held.holds;
      verified = held.verified;
    }
activated_by account after false ready h = absurd (cc)

pub activated-is : (account after : Account) → activated account ≡ Some after → IsActivated account after
unfolding activated
activated-is account after h = activated_by account after (is_ready account) refl h

-- activation keeps the lamports
pub lamports-active : (account : Account) → (active account).lamports ≡ account.lamports
lamports-active account = by_answer (activated account) (activated-is account)
  where
    by_answer : (answer : Option Account) → ((after : Account) → answer ≡ Some after → IsActivated account after) → (unwrap_or answer account).lamports ≡ account.lamports
    by_answer None is = refl
    by_answer (Some after) is = (is after refl).lamports
