-- Lists of accounts of which one is replaced.
use Rattle.std.proofs.Common.{◌≡◌, ◌≢◌, ◌∷◌, ◌<◌, ℕ, zero, suc, Bool, true, [], List, Option, length, get_or, set, nat_eq, refl, sym, ap, ◌∙◌, subst, arith}
use Rattle.std.specs.Prelude.{slice_get, unwrap_or}
use Rattle.std.specs.Arc.{arc_value}
use Rattle.std.specs.declared.sync.Arc.{Arc}
use Rattle.std.specs.declared.alloc.Global.{Global}
use Rattle.std.proofs.lemmas.Bool.Decides.{nat_tests}
use Rattle.std.proofs.lemmas.List.{get_or-map, map-set}
use Rattle.std.proofs.lemmas.List.Folds.{list_any_at}
use Rattle.sol_base.specs.declared.account.Account.{Account}
use Rattle.sol_base.specs.declared.lock.Meta.{Meta}
use Rattle.sol_base.specs.Accounts.{accounts_of, empty_account}
use Rattle.sol_base.specs.Metas.{SameUnlessListed, is_listed, no_meta}
use Rattle.loader_prog.specs.Loader.{holding, place_in}
use Rattle.loader_prog.specs.Written.{IsReplaced}

-- ---- an element of a list is set
pub slice_get-set_other : {X : Type 0} (xs : List X) (i p : ℕ) (a : X) → p ≢ i → slice_get (set xs i a) p ≡ slice_get xs p
slice_get-set_other [] i p a differ = refl
slice_get-set_other (x ∷ xs) zero zero a differ = absurd (differ refl)
slice_get-set_other (x ∷ xs) zero (suc p) a differ = refl
slice_get-set_other (x ∷ xs) (suc i) zero a differ = refl
slice_get-set_other (x ∷ xs) (suc i) (suc p) a differ = slice_get-set_other xs i p a (λ same. differ (ap suc same))

-- ---- shares
-- one share is another
pub shares_set : (accounts shares : List (Arc Account Global)) (place : ℕ) (x t : Arc Account Global)
    (bytes : List ℕ) → place < length accounts → x ≡ get_or accounts place x
    → arc_value t ≡ holding (arc_value x) bytes → accounts_of shares ≡ accounts_of accounts
    → accounts_of (set shares place t) ≡ set (accounts_of accounts) place (holding (get_or (accounts_of accounts) place empty_account) bytes)
shares_set accounts shares place x t bytes below there same so_far =
    let value = λ (share : Arc Account Global). arc_value share in
    let here : get_or (accounts_of accounts) place empty_account ≡ arc_value x = get_or-map value accounts place x empty_account below ∙ ap value (sym there) in
    map-set value shares place t ∙ ap (λ (l : List Account). set l place (arc_value t)) so_far
    ∙ ap (λ (a : Account). set (accounts_of accounts) place a) (same ∙ ap (λ (a : Account). holding a bytes) (sym here))

-- ---- the first account of a list
pub listed_place : (metas : List Meta) (role : ℕ) → role < length metas → is_listed metas (place_in metas role) ≡ true
listed_place metas role below = list_any_at (λ (meta : Meta). nat_eq meta.index (place_in metas role)) metas role no_meta below (self (place_in metas role))
  where
    self : (x : ℕ) → nat_eq x x ≡ true
    self x = grind (arith, nat_tests)

-- only a listed account is another
pub unlisted_same : (metas : List Meta) (before : List Account) (account : Account) → 0 < length metas → SameUnlessListed metas before (set before (place_in metas 0) account)
unlisted_same metas before account some place unlisted =
    slice_get-set_other before (place_in metas 0) place account (λ same. let listed = ap (λ (p : ℕ). is_listed metas p) same ∙ listed_place metas 0 some in absurd (cc))

pub replaced_unlisted : (metas : List Meta) (before : List Account) (place : ℕ) (written : Option (List ℕ))
    (touched : List Bool) (after : List Account) → 0 < length metas → place ≡ place_in metas 0
    → IsReplaced before place written touched after
    → SameUnlessListed metas before after
replaced_unlisted metas before place written touched after some first replaced =
    let account : Account = get_or before place empty_account in
    let other : Account = holding account (unwrap_or written account.bytes) in
    let moved : after ≡ set before (place_in metas 0) other = replaced.value ∙ ap (λ (p : ℕ). set before p other) first in
    subst (λ (l : List Account). SameUnlessListed metas before l) (sym moved) (unlisted_same metas before other some)
