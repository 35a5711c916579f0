-- What a callee is given (Solana; that accounts are found by key in the caller's own list, and the
-- order of the refusals, are the project's own). A key that the caller lists several times has the
-- rights of all its metas together.
use Rattle.std.specs.Prelude.{◌≡◌, ℕ, ◌<◌, ◌⊎◌, ◌==◌, ◌&&◌, ◌||◌, not, Bool, true, false, List, length, map, position, is_none, unwrap_or, Option, Some, None, Result, Ok, Err, if◌then◌else◌}
use Rattle.std.specs.List.{list_any, position_from}
use Rattle.spec_base.specs.Reading.{◌>>=◌}
use Rattle.sol_base.specs.declared.key.Key.{Key}
use Rattle.sol_base.specs.declared.lock.Meta.{Meta}
use Rattle.sol_base.specs.Keys.{same_key}
use Rattle.sol_base.specs.Metas.{is_listed, is_listed_signer, is_listed_writable, AreInRange}
use Rattle.cpi_calls.specs.declared.request.KeyMeta.{KeyMeta}
use Rattle.cpi_calls.specs.declared.request.CallRequest.{CallRequest}
use Rattle.cpi_calls.specs.declared.grant.Granted.{Granted}
use Rattle.cpi_calls.specs.declared.fault.RightsFault.{RightsFault}
use Rattle.cpi_calls.specs.declared.fault.RightsFault.TheVariants.{MissingAccount, PrivilegeEscalation, OutOfMemory as no_room}

-- the place, if the caller lists it
abbrev pub if_listed : List Meta → Option ℕ → Option ℕ
if_listed caller None = None
if_listed caller (Some place) = if is_listed caller place then Some place else None

-- the place of a key that the caller lists
abbrev pub place_of : List Key → List Meta → Key → Option ℕ
place_of keys caller key = if_listed caller (position (λ other. same_key other key) keys)

abbrev pub is_missing : List Key → List Meta → KeyMeta → Bool
is_missing keys caller asked = is_none (place_of keys caller asked.key)

-- what is asked for with an account, by its place
abbrev pub meta_of : List Key → List Meta → KeyMeta → Meta
meta_of keys caller asked =
    record {
      index = unwrap_or (place_of keys caller asked.key) 0;
      signer = asked.signer;
      writable = asked.writable;
    }

-- the caller may sign for a key: by its own list, or by seeds
abbrev pub may_sign : List Key → List Meta → Key → ℕ → Bool
may_sign signers caller key place =
    list_any (λ signer. same_key signer key) signers || is_listed_signer caller place

-- a right is asked for that the caller cannot give
abbrev pub exceeds_at : List Key → List Meta → KeyMeta → ℕ → Bool
exceeds_at signers caller asked place =
    (asked.signer && not (may_sign signers caller asked.key place))
    || (asked.writable && not (is_listed_writable caller place))

abbrev pub exceeds : List Key → List Key → List Meta → KeyMeta → Bool
exceeds keys signers caller asked =
    exceeds_at signers caller asked (meta_of keys caller asked).index

abbrev pub or_missing : {X : Type 0} → Option ℕ → X → Result X RightsFault
or_missing (Some i) x = Err (MissingAccount i)
or_missing None x = Ok x

abbrev pub or_escalation : Option ℕ → Result (Unit {0}) RightsFault
or_escalation (Some i) = Err (PrivilegeEscalation i)
or_escalation None = Ok tt

-- the metas of what is asked for, or the first account that is missing
abbrev pub metas_found : List Key → List Meta → List KeyMeta → Result (List Meta) RightsFault
metas_found keys caller asked =
    or_missing (position_from (is_missing keys caller) 0 asked) (map (meta_of keys caller) asked)

-- the place of the program, whose place in the request is after the metas
abbrev pub program_found : ℕ → Option ℕ → Result ℕ RightsFault
program_found count None = Err (MissingAccount count)
program_found count (Some place) = Ok place

-- The callee's program and list, or the first refusal: every account of the request, and then its
-- program, is looked for before any right is.
unfoldable pub rights_of : CallRequest → List Key → List Meta → Result Granted RightsFault
rights_of request keys caller = do
  metas ← metas_found keys caller request.metas
  program ← program_found (length request.metas) (place_of keys caller request.program)
  allowed ← or_escalation (position_from (exceeds keys request.signers caller) 0 request.metas)
  Ok (record { program = program; metas = metas })

-- out of memory, which no input shows
abbrev pub is_rights_memory : RightsFault → Bool
is_rights_memory no_room = true
is_rights_memory _ = false

-- a meta asks for a right that the caller cannot give, by the place that was found
abbrev pub exceeds_with : List Key → List Meta → KeyMeta × Meta → Bool
exceeds_with signers caller pair = exceeds_at signers caller pair.0 pair.1.index

-- what a call answers, by what is to be granted
abbrev pub Grants : Result Granted RightsFault → Result Granted RightsFault → Type 0
Grants wanted (Ok granted) = wanted ≡ Ok granted
Grants wanted (Err no_room) = Unit {0}
Grants wanted (Err fault) = wanted ≡ Err fault

-- a signer is given for an account at a place, by a key that is asked for
abbrev pub IsGiven : List Key → List Meta → List Key → List KeyMeta → ℕ → Type 0
IsGiven keys caller signers asked place =
    list_any (λ (x : KeyMeta). ((meta_of keys caller x).index == place)
    && list_any (λ signer. same_key signer x.key) signers) asked ≡ true

-- What is granted names keys that are there, is as long as what is asked for, and gives no right
-- that neither the caller's list nor, to sign, a signer has.
pub record IsWithin (request : CallRequest) (keys : List Key) (caller : List Meta)
    (granted : Granted) : Type 0 where
  pub program : granted.program < length keys
  pub range : AreInRange (length keys) granted.metas
  pub count : length granted.metas ≡ length request.metas
  pub writes : (place : ℕ) → is_listed_writable granted.metas place ≡ true
      → is_listed_writable caller place ≡ true
  pub signs : (place : ℕ) → is_listed_signer granted.metas place ≡ true
      → IsGiven keys caller request.signers request.metas place ⊎ (is_listed_signer caller place
      ≡ true)
