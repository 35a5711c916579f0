-- The numbers that refusals of the loader name: they fit four bytes.
use Rattle.std.proofs.Common.{◌+◌, ◌<◌, ◌^◌, ◌==◌, ℕ, Bool, true, false, not, List, length, Result, Ok, Err, lit<, if◌then◌else◌}
use Rattle.std.specs.Prelude.{IfErr, nat_lt}
use Rattle.std.specs.Int.{w32, w64}
use Rattle.spec_base.specs.Bytes.{with_bytes}
use Rattle.spec_base.specs.Reading.{field_at, number_at}
use Rattle.spec_base.proofs.Refusing.{bind_refuses, field_refuses, if_refuses, number_refuses, read_as_refuses}
use Rattle.sol_base.specs.declared.key.Key.{Key}
use Rattle.sol_base.specs.declared.key.TheConstants.{LOADER_PROGRAM}
use Rattle.sol_base.specs.declared.account.Account.{Account}
use Rattle.sol_base.specs.declared.lock.Meta.{Meta}
use Rattle.sol_base.specs.Keys.{same_key}
use Rattle.format_fields.specs.Fields.{key_at}
use Rattle.account_rules.specs.declared.rules.RuleFault.{RuleFault}
use Rattle.account_rules.specs.AccountRules.{listed_rules}
use Rattle.account_rules.proofs.Places.{NamesWithin, listed_within}
use Rattle.loader_prog.specs.declared.fault.LoaderFault.{LoaderFault}
use Rattle.loader_prog.specs.declared.fault.LoaderFault.TheVariants.{InvalidInstruction, NotEnoughAccounts, MissingSignature, Custom, Rule, OutOfMemory as no_memory}
use Rattle.loader_prog.specs.declared.image.Candidate.{Candidate}
use Rattle.loader_prog.specs.declared.image.Candidate.TheVariants.{NoImage, Unverified, Verified}
use Rattle.loader_prog.specs.Requests.{Request, Init, Write, Finalize, SetAuthority, accounts_needed, cut, fields_at, init_at, request_in, set_authority_at, write_at}
use Rattle.loader_prog.specs.Buffers.{authority_in, candidate_in, final_magic, image_at, is_blank, is_buffer, rest_in}
use Rattle.loader_prog.specs.Loader.{account_in, data_row, finalize_row, if_verified, init_row, key_in, loader_row, or_rule, owned, ruled, set_authority_row, signs, with_data, write_row}

-- a number that a refusal names fits four bytes; the place of a broken rule is one of so many
abbrev pub Fits : ℕ → LoaderFault → Type 0
Fits count InvalidInstruction = Unit {0}
Fits count NotEnoughAccounts = Unit {0}
Fits count (MissingSignature i) = i < 2 ^ 32
Fits count (Custom code) = code < 2 ^ 32
Fits count (Rule fault) = NamesWithin count fault
Fits count no_memory = Unit {0}

module _ (count : ℕ) where
  abbrev Fitting : {X : Type 0} → Result X LoaderFault → Type 0
  Fitting r = IfErr r (Fits count)

  -- ---- the request
  key_fits : (total : ℕ) (bytes : List ℕ) → Fitting (key_at cut total bytes)
  key_fits total bytes = read_as_refuses (Fits count) _ (field_at cut total 32) bytes (field_refuses (Fits count) cut total 32 bytes (λ at. tt))

  init_fits : (total : ℕ) (bytes : List ℕ) → Fitting (init_at total bytes)
  unfolding init_at
  init_fits total bytes = bind_refuses (Fits count) (key_at cut total bytes) _ (key_fits total bytes) (λ authority is. tt)

  write_fits : (total : ℕ) (bytes : List ℕ) → Fitting (write_at total bytes)
  unfolding write_at
  write_fits total bytes =
      bind_refuses (Fits count) (number_at cut w32 total bytes) _ (number_refuses (Fits count) cut w32 total bytes (λ at. tt))
      (λ offset o. bind_refuses (Fits count) (number_at cut w64 total offset.1) _ (number_refuses (Fits count) cut w64 total offset.1 (λ at. tt))
      (λ len l. bind_refuses (Fits count) (field_at cut total len.0 len.1) _ (field_refuses (Fits count) cut total len.0 len.1 (λ at. tt)) (λ piece p. tt)))

  set_authority_fits : (total : ℕ) (bytes : List ℕ) → Fitting (set_authority_at total bytes)
  unfolding set_authority_at
  set_authority_fits total bytes = bind_refuses (Fits count) (key_at cut total bytes) _ (key_fits total bytes) (λ authority is. tt)

  either : {X : Type 0} (b : Bool) (one other : Result X LoaderFault) → Fitting one → Fitting other → Fitting (if b then one else other)
  either true one other h k = h
  either false one other h k = k

  fields_fit : (tag total : ℕ) (bytes : List ℕ) → Fitting (fields_at tag total bytes)
  fields_fit tag total bytes =
      either (tag == 0) (init_at total bytes) _ (init_fits total bytes)
      (either (tag == 1) (write_at total bytes) _ (write_fits total bytes)
      (either (tag == 2) (Ok Finalize) _ tt
      (either (tag == 3) (set_authority_at total bytes) (Err InvalidInstruction) (set_authority_fits total bytes) tt)))

  request_fits : (input : List ℕ) → Fitting (request_in input)
  unfolding request_in
  request_fits input =
      bind_refuses (Fits count) (number_at cut w32 (length input) input) _ (number_refuses (Fits count) cut w32 (length input) input (λ at. tt))
      (λ tag is. fields_fit tag.0 (length input) tag.1)

  -- ---- the steps
  owned_fits : (keys : List Key) (accounts : List Account) (metas : List Meta) → Fitting (owned keys accounts metas)
  unfolding owned
  owned_fits keys accounts metas =
      let buffer : Account = account_in accounts metas 0 in
      if_refuses (Fits count) (not (same_key buffer.owner LOADER_PROGRAM)) (Custom 1) _ (lit< tt)
      (if_refuses (Fits count) (not (is_buffer buffer.bytes)) (Custom 4) _ (lit< tt)
      (if_refuses (Fits count) (not (same_key (key_in keys metas 1) (authority_in buffer.bytes))) (Custom 5) _ (lit< tt)
      (if_refuses (Fits count) (not (signs metas 1)) (MissingSignature 1) (Ok buffer.bytes) (lit< tt) tt)))

  initialized_fits : (accounts : List Account) (metas : List Meta) (authority : Key) → Fitting (init_row accounts metas authority)
  unfolding init_row
  initialized_fits accounts metas authority =
      let buffer : Account = account_in accounts metas 0 in
      if_refuses (Fits count) (not (same_key buffer.owner LOADER_PROGRAM)) (Custom 1) _ (lit< tt)
      (if_refuses (Fits count) (not (signs metas 0)) (MissingSignature 0) _ (lit< tt)
      (if_refuses (Fits count) (nat_lt (length buffer.bytes) image_at) (Custom 2) _ (lit< tt)
      (if_refuses (Fits count) (not (is_blank buffer.bytes)) (Custom 3) _ (lit< tt) tt)))

  written_fits : (keys : List Key) (accounts : List Account) (metas : List Meta) (offset : ℕ) (bytes : List ℕ) → Fitting (write_row keys accounts metas offset bytes)
  unfolding write_row
  written_fits keys accounts metas offset bytes =
      bind_refuses (Fits count) (owned keys accounts metas) _ (owned_fits keys accounts metas)
      (λ buffer is. if_refuses (Fits count) (nat_lt (length buffer) (offset + length bytes + image_at)) (Custom 6) (Ok (with_bytes buffer (image_at + offset) bytes)) (lit< tt) tt)

  verified_fits : {X : Type 0} (candidate : Candidate) (value : X) → Fitting (if_verified candidate value)
  verified_fits NoImage value = lit< tt
  verified_fits Unverified value = lit< tt
  verified_fits Verified value = tt

  finalized_fits : (keys : List Key) (accounts : List Account) (metas : List Meta) → Fitting (finalize_row keys accounts metas)
  unfolding finalize_row
  finalized_fits keys accounts metas =
      bind_refuses (Fits count) (owned keys accounts metas) _ (owned_fits keys accounts metas) (λ buffer is. verified_fits (candidate_in (rest_in buffer)) (with_bytes buffer 0 final_magic))

  given_fits : (keys : List Key) (accounts : List Account) (metas : List Meta) (authority : Key) → Fitting (set_authority_row keys accounts metas authority)
  unfolding set_authority_row
  given_fits keys accounts metas authority = bind_refuses (Fits count) (owned keys accounts metas) _ (owned_fits keys accounts metas) (λ buffer is. tt)

  data_fits : (keys : List Key) (accounts : List Account) (metas : List Meta) (request : Request) → Fitting (data_row keys accounts metas request)
  data_fits keys accounts metas (Init authority) = initialized_fits accounts metas authority
  data_fits keys accounts metas (Write offset bytes) = written_fits keys accounts metas offset bytes
  data_fits keys accounts metas Finalize = finalized_fits keys accounts metas
  data_fits keys accounts metas (SetAuthority authority) = given_fits keys accounts metas authority

  by_rules : (r : Result (Unit {0}) RuleFault) (after : List Account) → IfErr r (NamesWithin count) → Fitting (or_rule r after)
  by_rules (Ok u) after h = tt
  by_rules (Err fault) after h = h

ruled_fits : (metas : List Meta) (before after : List Account) → IfErr (ruled metas before after) (Fits (length metas))
ruled_fits metas before after = by_rules (length metas) (listed_rules LOADER_PROGRAM metas before after) after (listed_within LOADER_PROGRAM metas before after)

-- a refusal of the loader
pub loader_fits : (keys : List Key) (accounts : List Account) (metas : List Meta) (input : List ℕ) → IfErr (loader_row keys accounts metas input) (Fits (length metas))
unfolding loader_row
loader_fits keys accounts metas input =
    let count : ℕ = length metas in
    bind_refuses (Fits count) (request_in input) _ (request_fits count input)
    (λ request is. if_refuses (Fits count) (nat_lt (length metas) (accounts_needed request)) NotEnoughAccounts _ tt
    (bind_refuses (Fits count) (data_row keys accounts metas request) _ (data_fits count keys accounts metas request)
    (λ bytes made. ruled_fits metas accounts (with_data accounts metas bytes))))
