-- Accounts one after the other, as an iterator shows them.
use Rattle.std.proofs.Common.{◌≡◌, ◌<◌, ◌^◌, ℕ, List, [], ◌∷◌, ◌++◌, length, Option, Some, None, refl, sym, ap, subst, ◌∙◌, append_assoc, arith}
use Rattle.std.specs.Prelude.{MatchOption}
use Rattle.std.specs.Borrow.{Bor}
use Rattle.std.specs.List.{flat_map, AllByRecursion}
use Rattle.std.proofs.lemmas.List.{append-nil}
use Rattle.std.proofs.lemmas.Grind.{flat_map-append}
use Rattle.sol_base.specs.declared.key.Key.{Key}
use Rattle.sol_base.specs.declared.account.Account.{Account}
use Rattle.account_store.specs.State.{IsHeld}
use Rattle.account_store.specs.Shared.{Shared}
use Rattle.format_fields.specs.Output.{Adds}
use Rattle.snapshot_codec.specs.Snapshot.{account_bytes}
use Rattle.format_fields.proofs.Adding.{Adds-none, Adds-then, Adds-as}

-- all but those that are left are written
pub record IsWritten {O : Type 0} (holds : O → List ℕ → Type 0) (old new : O) (all left : List (Key × Account)) : Type 0 where
  pub done : List (Key × Account)
  pub split : done ++ left ≡ all
  pub added : Adds holds old new (flat_map account_bytes done)

pub begun : {O : Type 0} (holds : O → List ℕ → Type 0) (out : O) (all left : List (Key × Account)) → left ≡ all → IsWritten holds out out all left
begun holds out all left h = record { done = []; split = h; added = Adds-none holds out }

pub goes_on : {O : Type 0} {holds : O → List ℕ → Type 0} {old mid new : O}
    (all left after : List (Key × Account)) (e : Key × Account) → IsWritten holds old mid all left
    → left ≡ e ∷ after → Adds holds mid new (account_bytes e)
    → IsWritten holds old new all after
goes_on all left after e written next added = record {
  done = written.done ++ e ∷ [];
  split = append_assoc written.done (e ∷ []) after ∙ ap (λ (l : List (Key × Account)). written.done ++ l) (sym next) ∙ written.split;
  added = Adds-as (Adds-then written.added added)
      (sym (flat_map-append account_bytes written.done (e ∷ [])
      ∙ ap (λ (l : List ℕ). flat_map account_bytes written.done ++ l) (append-nil (account_bytes e))));
}

pub ends : {O : Type 0} {holds : O → List ℕ → Type 0} {old new : O} (all left : List (Key × Account)) → IsWritten holds old new all left → left ≡ [] → Adds holds old new (flat_map account_bytes all)
ends all left written none =
    Adds-as written.added (ap (flat_map account_bytes) (sym (append-nil written.done) ∙ ap (λ (l : List (Key × Account)). written.done ++ l) (sym none) ∙ written.split))

-- what holds of each entry holds of one that is left
left_held : (P : Key × Account → Type 0) (done after : List (Key × Account)) (e : Key × Account) → AllByRecursion P (done ++ e ∷ after) → P e
left_held P [] after e h = h.0
left_held P (d ∷ done) after e h = left_held P done after e h.1

-- the data of the next account have a length that is allowed
pub next_is_short : {O : Type 0} {holds : O → List ℕ → Type 0} {old mid : O}
    (all left after : List (Key × Account)) (e : Key × Account) → AllByRecursion (λ d. IsHeld d.1) all
    → IsWritten holds old mid all left → left ≡ e ∷ after → length e.1.bytes < 2 ^ 32
next_is_short all left after e held written next =
    let split : all ≡ written.done ++ e ∷ after = sym written.split ∙ ap (λ (l : List (Key × Account)). written.done ++ l) next in
    let is_held = left_held (λ d. IsHeld d.1) written.done after e (subst (AllByRecursion (λ (d : Key × Account). IsHeld d.1)) split held) in
    let short = is_held.1 in
    omega arith

-- where no account is next, none is left
pub none_left : (r : Option (Bor Key × Bor Shared)) (left after : List (Key × Shared))
    → ((x : Bor Key × Bor Shared) → r ≡ Some x → ⊥)
    → MatchOption r ((left ≡ []) × (after ≡ [])) (λ x. left ≡ (x.0.now, x.1.now) ∷ after) → left ≡ []
none_left None left after some h = h.0
none_left (Some x) left after some h = absurd (some x refl)
