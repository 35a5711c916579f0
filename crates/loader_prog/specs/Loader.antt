-- The loader program: one equation for each of its requests, and what becomes of a final buffer
-- (the project's own).
use Rattle.std.specs.Prelude.{◌≡◌, ℕ, ◌+◌, ◌&&◌, not, Bool, true, List, ◌++◌, length, nat_lt, slice_set, Option, Some, None, unwrap_or, Result, Ok, Err, if◌then◌else◌}
use Rattle.std.specs.List.{slice_index_or}
use Rattle.std.specs.declared.sync.Arc.{Arc}
use Rattle.std.specs.declared.alloc.Global.{Global}
use Rattle.spec_base.specs.Reading.{◌>>=◌}
use Rattle.sol_base.specs.declared.key.Key.{Key}
use Rattle.sol_base.specs.declared.key.TheConstants.{LOADER_PROGRAM, SYSTEM_PROGRAM}
use Rattle.sol_base.specs.declared.account.Account.{Account}
use Rattle.sol_base.specs.declared.lock.Meta.{Meta}
use Rattle.sol_base.specs.Keys.{same_key}
use Rattle.sol_base.specs.Accounts.{accounts_of, empty_account}
use Rattle.sol_base.specs.Metas.{is_listed_signer, no_meta}
use Rattle.spec_base.specs.Bytes.{with_bytes}
use Rattle.account_rules.specs.declared.rules.RuleFault.{RuleFault}
use Rattle.account_rules.specs.AccountRules.{listed_rules}
use Rattle.loader_prog.specs.declared.fault.LoaderFault.{LoaderFault}
use Rattle.loader_prog.specs.declared.fault.LoaderFault.TheVariants.{NotEnoughAccounts, MissingSignature, Custom, Rule, OutOfMemory as no_memory}
use Rattle.loader_prog.specs.declared.image.Candidate.{Candidate}
use Rattle.loader_prog.specs.declared.image.Candidate.TheVariants.{NoImage, Unverified, Verified}
use Rattle.loader_prog.specs.Requests.{Request, Init, Write, Finalize, SetAuthority, accounts_needed, request_in}
use Rattle.loader_prog.specs.Buffers.{authority_at, authority_in, buffer_magic, candidate_in, final_magic, image_at, is_blank, is_buffer, is_final, is_verified, rest_in}

-- ---- the accounts that an instruction lists, by their places in its list

-- the place of a listed account among all of the transaction
abbrev pub place_in : List Meta → ℕ → ℕ
place_in metas role = (slice_index_or metas role no_meta).index

abbrev pub account_in : List Account → List Meta → ℕ → Account
account_in accounts metas role = slice_index_or accounts (place_in metas role) empty_account

abbrev pub key_in : List Key → List Meta → ℕ → Key
key_in keys metas role = slice_index_or keys (place_in metas role) SYSTEM_PROGRAM

-- a key signs where one of its metas signs
abbrev pub signs : List Meta → ℕ → Bool
signs metas role = is_listed_signer metas (place_in metas role)

-- the data of the first listed account
abbrev pub data_in : List Account → List Meta → List ℕ
data_in accounts metas = (account_in accounts metas 0).bytes

-- an account with other data
abbrev pub holding : Account → List ℕ → Account
holding account bytes = record account { bytes = bytes }

-- the accounts, where the first listed one has other data
abbrev pub with_data : List Account → List Meta → List ℕ → List Account
with_data accounts metas bytes =
    slice_set accounts (place_in metas 0) (holding (account_in accounts metas 0) bytes)

-- ---- the steps
-- the value that follows, where the test passes, else the refusal
abbrev pub unless : {X : Type 0} → Bool → LoaderFault → Result X LoaderFault → Result X LoaderFault
unless test fault value = if test then Err fault else value

-- the data of the first account, which is a buffer whose authority is the second, and signs
unfoldable pub owned : List Key → List Account → List Meta → Result (List ℕ) LoaderFault
owned keys accounts metas =
    let buffer = account_in accounts metas 0 in
    unless (not (same_key buffer.owner LOADER_PROGRAM)) (Custom 1) (
    unless (not (is_buffer buffer.bytes)) (Custom 4) (
    unless (not (same_key (key_in keys metas 1) (authority_in buffer.bytes))) (Custom 5) (
    unless (not (signs metas 1)) (MissingSignature 1) (
    Ok buffer.bytes))))

-- what a buffer begins with
abbrev pub head_of : Key → List ℕ
head_of authority = buffer_magic ++ authority.0

unfoldable pub init_row : List Account → List Meta → Key → Result (List ℕ) LoaderFault
init_row accounts metas authority =
    let buffer = account_in accounts metas 0 in
    unless (not (same_key buffer.owner LOADER_PROGRAM)) (Custom 1) (
    unless (not (signs metas 0)) (MissingSignature 0) (
    unless (nat_lt (length buffer.bytes) image_at) (Custom 2) (
    unless (not (is_blank buffer.bytes)) (Custom 3) (
    Ok (with_bytes buffer.bytes 0 (head_of authority))))))

unfoldable pub write_row : List Key → List Account → List Meta → ℕ → List ℕ
    → Result (List ℕ) LoaderFault
write_row keys accounts metas offset bytes = do
  buffer ← owned keys accounts metas
  unless (nat_lt (length buffer) (offset + length bytes + image_at)) (Custom 6)
      (Ok (with_bytes buffer (image_at + offset) bytes))

-- the value, where the image has a verified text
abbrev pub if_verified : {X : Type 0} → Candidate → X → Result X LoaderFault
if_verified NoImage value = Err (Custom 7)
if_verified Unverified value = Err (Custom 8)
if_verified Verified value = Ok value

unfoldable pub finalize_row : List Key → List Account → List Meta → Result (List ℕ) LoaderFault
finalize_row keys accounts metas = do
  buffer ← owned keys accounts metas
  if_verified (candidate_in (rest_in buffer)) (with_bytes buffer 0 final_magic)

unfoldable pub set_authority_row : List Key → List Account → List Meta → Key
    → Result (List ℕ) LoaderFault
set_authority_row keys accounts metas authority = do
  buffer ← owned keys accounts metas
  Ok (with_bytes buffer authority_at authority.0)

-- the data of the first account after a request, or the first refusal
abbrev pub data_row : List Key → List Account → List Meta → Request → Result (List ℕ) LoaderFault
data_row keys accounts metas (Init authority) = init_row accounts metas authority
data_row keys accounts metas (Write offset bytes) = write_row keys accounts metas offset bytes
data_row keys accounts metas Finalize = finalize_row keys accounts metas
data_row keys accounts metas (SetAuthority authority) =
    set_authority_row keys accounts metas authority

abbrev pub or_rule : Result (Unit {0}) RuleFault → List Account → Result (List Account) LoaderFault
or_rule (Ok _) after = Ok after
or_rule (Err fault) after = Err (Rule fault)

-- the accounts after, where they break no account rule
abbrev pub ruled : List Meta → List Account → List Account → Result (List Account) LoaderFault
ruled metas before after = or_rule (listed_rules LOADER_PROGRAM metas before after) after

-- the accounts after an instruction, or the first refusal
unfoldable pub loader_row : List Key → List Account → List Meta → List ℕ
    → Result (List Account) LoaderFault
loader_row keys accounts metas input = do
  request ← request_in input
  unless (nat_lt (length metas) (accounts_needed request)) NotEnoughAccounts (do
    bytes ← data_row keys accounts metas request
    ruled metas accounts (with_data accounts metas bytes))

-- what a call answers, by what is wanted of it
abbrev pub AnswersLoader : Result (List Account) LoaderFault
    → Result (List (Arc Account Global)) LoaderFault → Type 0
AnswersLoader wanted (Ok accounts) = wanted ≡ Ok (accounts_of accounts)
AnswersLoader wanted (Err no_memory) = Unit {0}
AnswersLoader wanted (Err fault) = wanted ≡ Err fault

-- ---- activation
-- an account of the loader that is final, holds a verified image and is not executable yet
abbrev pub is_ready : Account → Bool
is_ready account =
    same_key account.owner LOADER_PROGRAM && not account.executable && is_final account.bytes
    && is_verified (candidate_in (rest_in account.bytes))

-- the account as an executable one that holds the image alone, if it is to become that
unfoldable pub activated : Account → Option Account
activated account =
    if is_ready account
    then Some (record account { executable = true; bytes = rest_in account.bytes }) else None

-- the account after the end of a block
abbrev pub active : Account → Account
active account = unwrap_or (activated account) account
