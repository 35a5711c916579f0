-- Lists of metas that list the same accounts in the same order, with the same rights of each account, have the same answer.
use Rattle.std.proofs.Common.{◌≡◌, ℕ, ◌+◌, not, List, length, nat_lt, set, ap, ◌∙◌, Ok}
use Rattle.std.specs.List.{slice_index_or}
use Rattle.spec_base.specs.Reading.{◌>>=◌}
use Rattle.sol_base.specs.declared.key.Key.{Key}
use Rattle.sol_base.specs.declared.key.TheConstants.{LOADER_PROGRAM, SYSTEM_PROGRAM}
use Rattle.sol_base.specs.declared.account.Account.{Account}
use Rattle.sol_base.specs.declared.lock.Meta.{Meta}
use Rattle.sol_base.specs.Keys.{same_key}
use Rattle.sol_base.specs.Accounts.{empty_account}
use Rattle.sol_base.specs.Metas.{is_listed_signer, no_meta}
use Rattle.spec_base.specs.Bytes.{with_bytes}
use Rattle.account_rules.specs.Listings.{SameListing}
use Rattle.account_rules.proofs.SameListings.{same_length, same_places, same_rules}
use Rattle.loader_prog.specs.declared.fault.LoaderFault.TheVariants.{Custom, MissingSignature, NotEnoughAccounts}
use Rattle.loader_prog.specs.Buffers.{authority_at, authority_in, candidate_in, final_magic, image_at, is_blank, is_buffer, rest_in}
use Rattle.loader_prog.specs.Loader.{account_in, data_row, finalize_row, head_of, holding, if_verified, init_row, key_in, loader_row, or_rule, owned, place_in, ruled, set_authority_row, signs, unless, with_data, write_row}
use Rattle.loader_prog.specs.Requests.{Finalize, Init, Request, SetAuthority, Write, accounts_needed, request_in}

module _ (keys : List Key) (accounts : List Account) (some others : List Meta) (same : SameListing some others) where
  places : (role : ℕ) → place_in some role ≡ place_in others role
  places role = same_places some others same no_meta role

  same_account : (role : ℕ) → account_in accounts some role ≡ account_in accounts others role
  same_account role = ap (λ place. slice_index_or accounts place empty_account) (places role)

  same_signs : (role : ℕ) → signs some role ≡ signs others role
  same_signs role = ap (λ place. is_listed_signer some place) (places role) ∙ same.signer (place_in others role)

  same_key_in : (role : ℕ) → key_in keys some role ≡ key_in keys others role
  same_key_in role = ap (λ place. slice_index_or keys place SYSTEM_PROGRAM) (places role)

  same_owned : owned keys accounts some ≡ owned keys accounts others
  unfolding owned
  same_owned = λ i.
      unless (not (same_key (same_account 0 i).owner LOADER_PROGRAM)) (Custom 1) (
      unless (not (is_buffer (same_account 0 i).bytes)) (Custom 4) (
      unless (not (same_key (same_key_in 1 i) (authority_in (same_account 0 i).bytes))) (Custom 5) (
      unless (not (same_signs 1 i)) (MissingSignature 1) (
      Ok (same_account 0 i).bytes))))

  same_data : (request : Request) → data_row keys accounts some request ≡ data_row keys accounts others request
  unfolding init_row write_row finalize_row set_authority_row
  same_data (Init authority) = λ i.
      unless (not (same_key (same_account 0 i).owner LOADER_PROGRAM)) (Custom 1) (
      unless (not (same_signs 0 i)) (MissingSignature 0) (
      unless (nat_lt (length (same_account 0 i).bytes) image_at) (Custom 2) (
      unless (not (is_blank (same_account 0 i).bytes)) (Custom 3) (
      Ok (with_bytes (same_account 0 i).bytes 0 (head_of authority))))))
  same_data (Write offset bytes) = λ i. same_owned i >>= (λ buffer. unless (nat_lt (length buffer) (offset + length bytes + image_at)) (Custom 6) (Ok (with_bytes buffer (image_at + offset) bytes)))
  same_data Finalize = λ i. same_owned i >>= (λ buffer. if_verified (candidate_in (rest_in buffer)) (with_bytes buffer 0 final_magic))
  same_data (SetAuthority authority) = λ i. same_owned i >>= (λ buffer. Ok (with_bytes buffer authority_at authority.0))

  same_written : (bytes : List ℕ) → with_data accounts some bytes ≡ with_data accounts others bytes
  same_written bytes = λ i. set accounts (places 0 i) (holding (same_account 0 i) bytes)

  same_ruled : (after : List Account) → ruled some accounts after ≡ ruled others accounts after
  same_ruled after = ap (λ answer. or_rule answer after) (same_rules some others same LOADER_PROGRAM accounts after)

  same_checked : (bytes : List ℕ) → ruled some accounts (with_data accounts some bytes) ≡ ruled others accounts (with_data accounts others bytes)
  same_checked bytes = same_ruled (with_data accounts some bytes) ∙ ap (ruled others accounts) (same_written bytes)

  pub same_loader : (input : List ℕ) → loader_row keys accounts some input ≡ loader_row keys accounts others input
  unfolding loader_row
  same_loader input = λ i. request_in input >>=
      (λ request. unless (nat_lt (same_length some others same i) (accounts_needed request)) NotEnoughAccounts
      (same_data request i >>= (λ bytes. same_checked bytes i)))
