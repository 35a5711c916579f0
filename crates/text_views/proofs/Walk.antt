-- Lines that are written one account after the other, as an iterator shows the accounts.
use Rattle.std.proofs.Common.{◌≡◌, List, [], ◌∷◌, ◌++◌, ℕ, Option, Some, None, refl, sym, ap, ◌∙◌, append_assoc}
use Rattle.std.specs.Prelude.{MatchOption}
use Rattle.std.specs.Borrow.{Bor}
use Rattle.std.specs.List.{flat_map}
use Rattle.std.proofs.lemmas.List.{append-nil}
use Rattle.sol_base.specs.declared.key.Key.{Key}
use Rattle.sol_base.specs.declared.account.Account.{Account}
use Rattle.account_store.specs.Shared.{Shared}

pub goes_on : (lines : Key × Account → List ℕ) (out new : List ℕ) (left after : List (Key × Account))
    (e : Key × Account) (all : List ℕ) → left ≡ e ∷ after → new ≡ out ++ lines e
    → out ++ flat_map lines left ≡ all → new ++ flat_map lines after ≡ all
goes_on lines out new left after e all next added h =
    ap (λ (l : List ℕ). l ++ flat_map lines after) added ∙ append_assoc out (lines e) (flat_map lines after) ∙ ap (λ (l : List (Key × Account)). out ++ flat_map lines l) (sym next) ∙ h
