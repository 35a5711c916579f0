-- Who may write a buffer.
use Rattle.std.proofs.Common.{◌≡◌, ◌≢◌, ◌⊎◌, ◌<◌, ◌≤◌, ℕ, Bool, true, false, List, Ok, Some, length, get_or, nat_eq, refl, sym, ap, ◌∙◌, inl, inr, subst, arith}
use Rattle.std.specs.Prelude.{slice_get}
use Rattle.std.proofs.lemmas.Bool.Decides.{nat_tests}
use Rattle.std.proofs.lemmas.Option.{get_or_from_slice_get, same_Some, slice_get-get_or}
use Rattle.std.proofs.lemmas.Bool.{not-false}
use Rattle.spec_base.proofs.Binding.{bind_ok}
use Rattle.sol_base.specs.declared.key.Key.{Key}
use Rattle.sol_base.specs.declared.key.TheConstants.{SYSTEM_PROGRAM}
use Rattle.sol_base.specs.declared.account.Account.{Account}
use Rattle.sol_base.specs.declared.lock.Meta.{Meta}
use Rattle.sol_base.specs.Accounts.{empty_account}
use Rattle.sol_base.specs.Metas.{AreInRange, no_meta}
use Rattle.sol_base.proofs.KeyLaws.{same_key-true}
use Rattle.loader_prog.specs.Requests.{Request, Init, Write, Finalize, SetAuthority, accounts_needed}
use Rattle.loader_prog.specs.Buffers.{authority_in}
use Rattle.loader_prog.specs.Loader.{account_in, data_row, finalize_row, holding, init_row, key_in, loader_row, owned, place_in, set_authority_row, write_row}
use Rattle.loader_prog.specs.Laws.{IsInitialized, IsWrittenByAuthority, OnlyTheAuthorityWrites}
use Rattle.loader_prog.proofs.Inversion.{EndsWell, ends_well, unless_ok}
use Rattle.loader_prog.proofs.Replacing.{slice_get-set_other}

-- an account that may become a buffer
initialized : (accounts : List Account) (metas : List Meta) (authority : Key) (bytes : List ℕ)
    → init_row accounts metas authority ≡ Ok bytes
    → IsInitialized metas (place_in metas 0) (account_in accounts metas 0)
unfolding init_row
initialized accounts metas authority bytes h =
    let owner = unless_ok _ _ _ bytes h in
    let signed = unless_ok _ _ _ bytes owner.1 in
    let room = unless_ok _ _ _ bytes signed.1 in
    let blank = unless_ok _ _ _ bytes room.1 in
    record { blank = not-false _ blank.0; signs = not-false _ signed.0 }

-- a key of a role is there
key_there : (keys : List Key) (count : ℕ) (metas : List Meta) (role : ℕ) → count ≡ length keys
    → AreInRange count metas → role < length metas
    → slice_get keys (place_in metas role) ≡ Some (key_in keys metas role)
key_there keys count metas role same range below = slice_get-get_or keys (place_in metas role) SYSTEM_PROGRAM (omega (arith, range role no_meta below))

-- a buffer whose authority signs
by_authority : (keys : List Key) (accounts : List Account) (metas : List Meta) (bytes : List ℕ)
    → length accounts ≡ length keys → AreInRange (length accounts) metas → 2 ≤ length metas
    → owned keys accounts metas ≡ Ok bytes
    → IsWrittenByAuthority keys metas (account_in accounts metas 0)
unfolding owned
by_authority keys accounts metas bytes same range two h =
    let owner = unless_ok _ _ _ bytes h in
    let buffer = unless_ok _ _ _ bytes owner.1 in
    let key = unless_ok _ _ _ bytes buffer.1 in
    let signed = unless_ok _ _ _ bytes key.1 in
    let one : key_in keys metas 1 ≡ authority_in (account_in accounts metas 0).bytes = same_key-true _ _ (not-false _ key.0) in
    record {
      buffer = not-false _ buffer.0;
      place = place_in metas 1;
      key = key_there keys (length accounts) metas 1 same range (omega arith) ∙ ap Some one;
      signs = not-false _ signed.0;
    }

Allowed : List Key → List Meta → ℕ → Account → Type 0
Allowed keys metas place was = IsInitialized metas place was ⊎ IsWrittenByAuthority keys metas was

-- whoever changes the first account may
by_request : (keys : List Key) (accounts : List Account) (metas : List Meta) (request : Request)
    (bytes : List ℕ) → length accounts ≡ length keys → AreInRange (length accounts) metas
    → accounts_needed request ≤ length metas
    → data_row keys accounts metas request ≡ Ok bytes → Allowed keys metas (place_in metas 0) (account_in accounts metas 0)
unfolding Allowed write_row finalize_row set_authority_row
by_request keys accounts metas (Init authority) bytes same range enough h = inl (initialized accounts metas authority bytes h)
by_request keys accounts metas (Write offset piece) bytes same range enough h = let first = bind_ok
    (owned keys accounts metas) _ bytes h
    in inr (by_authority keys accounts metas first.0 same range enough first.1)
by_request keys accounts metas Finalize bytes same range enough h = let first = bind_ok
    (owned keys accounts metas) _ bytes h
    in inr (by_authority keys accounts metas first.0 same range enough first.1)
by_request keys accounts metas (SetAuthority authority) bytes same range enough h = let first = bind_ok
    (owned keys accounts metas) _ bytes h
    in inr (by_authority keys accounts metas first.0 same range enough first.1)

-- an account has other data only where that is allowed
pub only_the_authority : (keys : List Key) (accounts : List Account) (metas : List Meta) (input : List ℕ)
    (after : List Account) → length accounts ≡ length keys → AreInRange (length accounts) metas
    → loader_row keys accounts metas input ≡ Ok after
    → OnlyTheAuthorityWrites keys accounts metas after
unfolding Allowed
only_the_authority keys accounts metas input after same range h place was is here there = by_test (nat_eq place (place_in metas 0)) refl
  where
    well : EndsWell keys accounts metas after
    well = ends_well keys accounts metas input after h

    by_test : (t : Bool) → nat_eq place (place_in metas 0) ≡ t → (was.bytes ≡ is.bytes) ⊎ IsInitialized metas place was ⊎ IsWrittenByAuthority keys metas was
    by_test true test =
        let first : place ≡ place_in metas 0 = grind (arith, nat_tests) in
        let account : account_in accounts metas 0 ≡ was = ap (λ (p : ℕ). get_or accounts p empty_account) (sym first) ∙ get_or_from_slice_get accounts place was empty_account here in
        let allowed = by_request keys accounts metas well.request well.bytes same range well.enough well.row in
        let moved = subst (λ (p : ℕ). Allowed keys metas p (account_in accounts metas 0)) (sym first) allowed in
        inr (subst (λ (a : Account). Allowed keys metas place a) account moved)
    by_test false test =
        let differ : place ≢ place_in metas 0 = grind (arith, nat_tests) in
        let stays = slice_get-set_other accounts (place_in metas 0) place (holding (account_in accounts metas 0) well.bytes) differ in
        let one : was ≡ is = same_Some was is (sym here ∙ sym stays ∙ ap (λ (l : List Account). slice_get l place) well.written ∙ there) in
        inl (ap (λ (a : Account). a.bytes) one)
