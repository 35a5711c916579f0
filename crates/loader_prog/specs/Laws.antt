-- What calls of the loader keep, and who may write a program.
use Rattle.std.specs.Prelude.{◌≡◌, ◌⊎◌, ℕ, true, List, slice_get, Some}
use Rattle.sol_base.specs.declared.key.Key.{Key}
use Rattle.sol_base.specs.declared.account.Account.{Account}
use Rattle.sol_base.specs.declared.lock.Meta.{Meta}
use Rattle.sol_base.specs.Metas.{is_listed_signer}
use Rattle.sbpf_verify.specs.Images.{ImageParts, image_in}
use Rattle.sbpf_verify.specs.Verified.{IsVerified}
use Rattle.loader_prog.specs.Buffers.{authority_in, is_blank, is_buffer}

-- nothing stood where the magic of a buffer goes, and the account signs
pub record IsInitialized (metas : List Meta) (place : ℕ) (was : Account) : Type 0 where
  pub blank : is_blank was.bytes ≡ true
  pub signs : is_listed_signer metas place ≡ true

-- it was a buffer, and the key of its authority signs
pub record IsWrittenByAuthority (keys : List Key) (metas : List Meta) (was : Account) : Type 0 where
  pub buffer : is_buffer was.bytes ≡ true
  pub place : ℕ
  pub key : slice_get keys place ≡ Some (authority_in was.bytes)
  pub signs : is_listed_signer metas place ≡ true

-- no account has other data for another reason
abbrev pub OnlyTheAuthorityWrites : List Key → List Account → List Meta → List Account → Type 0
OnlyTheAuthorityWrites keys before metas after =
    (place : ℕ) (was is : Account) → slice_get before place ≡ Some was
    → slice_get after place ≡ Some is →
    (was.bytes ≡ is.bytes) ⊎ IsInitialized metas place was ⊎ IsWrittenByAuthority keys metas was

-- an account has become executable, with an image of a verified text as its data; all else stays
pub record IsActivated (before after : Account) : Type 0 where
  pub lamports : after.lamports ≡ before.lamports
  pub owner : after.owner ≡ before.owner
  pub executable : after.executable ≡ true
  pub image : ImageParts
  pub holds : image_in after.bytes ≡ Some image
  pub verified : IsVerified image.text
