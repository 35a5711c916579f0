-- What is found under the key of a program (this project's own).
use Rattle.std.specs.Prelude.{◌≡◌, ℕ, List, ◌++◌, map as each, true, Option, Some, None, unwrap_or, if◌then◌else◌}
use Rattle.std.specs.Option.{option_map_or}
use Rattle.std.specs.FinMap as finite
use Rattle.sol_base.specs.declared.key.Key.{Key}
use Rattle.sol_base.specs.declared.account.Account.{Account}
use Rattle.sol_base.specs.Keys.{key_cmp}
use Rattle.account_store.specs.State.{State, get}
use Rattle.sbpf_verify.specs.declared.fault.VerifyFault.{VerifyFault}
use Rattle.sbpf_verify.specs.Images.{ImageParts, image_in}
use Rattle.sbpf_verify.specs.Verified.{unfit, IsVerified}
use Rattle.program_cache.specs.Ready.{ReadyImage}
use Rattle.program_cache.specs.declared.found.Found.{Found}
use Rattle.program_cache.specs.declared.found.Found.TheVariants.{Ready, NotFound, NotProgram, Bad, Unverified}

-- a program that is ready, or why there is none
pub data Sought : Type 0 where
  IsReady : ReadyImage → Sought
  IsAbsent : Sought
  IsNoProgram : Sought
  IsBad : Sought
  IsUnverified : VerifyFault → Sought

-- what an answer says
abbrev pub found_as : Found → Sought
found_as (Ready image) = IsReady image.now
found_as NotFound = IsAbsent
found_as NotProgram = IsNoProgram
found_as Bad = IsBad
found_as (Unverified fault) = IsUnverified fault

-- an image as a program that is ready
abbrev pub ready_image : ImageParts → ReadyImage
ready_image image = record { text = image.text; bytes = image.text ++ image.constants }

-- an image as a program, by the refusal of its text
abbrev pub judged : ImageParts → Option VerifyFault → Sought
judged image None = IsReady (ready_image image)
judged image (Some fault) = IsUnverified fault

abbrev pub image_as : Option ImageParts → Sought
image_as None = IsBad
image_as (Some image) = judged image (unfit image.text)

-- what an executable account's data are as a program
unfoldable pub program_in : List ℕ → Sought
program_in bytes = image_as (image_in bytes)

-- what an account is as a program
abbrev pub account_as : Account → Sought
account_as account = if account.executable then program_in account.bytes else IsNoProgram

-- what is found under a key of a state
unfoldable pub sought_in : State → Key → Sought
sought_in s key = option_map_or account_as (get s key) IsAbsent

-- the keys for which something is kept, ascending, each with it
abbrev pub Listing : Type 0
Listing = List (Key × Sought)

-- what is kept for a list of keys of a state: for each of them what is found under it
unfoldable pub programs_of : State → List Key → Listing
programs_of s keys =
    finite.entries (finite.from_entries {R = key_cmp} (each (λ key. (key, sought_in s key)) keys))

-- what is found under a key among all that is kept
unfoldable pub sought : Listing → Key → Sought
sought programs key = unwrap_or (finite.find key_cmp key programs) IsAbsent

-- a program that is ready under a key of a state is that of the account there: executable, its data
-- an image with a verified text
pub record IsProgramOf (s : State) (key : Key) (ready : ReadyImage) : Type 0 where
  pub account : Account
  pub image : ImageParts
  pub there : get s key ≡ Some account
  pub executable : account.executable ≡ true
  pub read : image_in account.bytes ≡ Some image
  pub verified : IsVerified image.text
  pub ready_as : ready ≡ ready_image image
