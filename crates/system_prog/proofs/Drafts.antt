-- Drafts of accounts: an account among all, and what one change makes of them.
use Rattle.std.proofs.Common.{◌≡◌, ◌+◌, ◌<◌, ◌≤◌, ℕ, List, length, get_or, set, sym, ap, ◌∙◌, arith}
use Rattle.std.specs.Arc.{arc_value}
use Rattle.std.specs.declared.sync.Arc.{Arc}
use Rattle.std.specs.declared.alloc.Global.{Global}
use Rattle.std.proofs.lemmas.List.{get_or-map, map-set}
use Rattle.std.proofs.lemmas.List.Sums.{get_or-le-sum_by, sum_by-set}
use Rattle.sol_base.specs.declared.account.Account.{Account}
use Rattle.sol_base.specs.Accounts.{accounts_of, empty_account, lamports_in}
use Rattle.system_prog.specs.declared.draft.Change.{Change}
use Rattle.system_prog.specs.Drafts.{changed}
use Rattle.system_prog.specs.SystemProgram.{account_at}

-- an account has no more lamports than all together
pub part_of : (accounts : List Account) (place : ℕ) (account : Account) → place < length accounts → account ≡ account_at accounts place → account.lamports ≤ lamports_in accounts
part_of accounts place account below is =
    let there = get_or-le-sum_by (λ (one : Account). one.lamports) accounts place empty_account below in
    let same : account.lamports ≡ (account_at accounts place).lamports = ap (λ (one : Account). one.lamports) is in
    omega arith

-- one account is changed
pub changed_at : (shares : List (Arc Account Global)) (accounts : List Account) (place : ℕ)
    (old new : Arc Account Global) (change : Change) → accounts_of shares ≡ accounts → place < length shares
    → old ≡ get_or shares place old → arc_value new ≡ changed change (arc_value old)
    → accounts_of (set shares place new) ≡ set accounts place (changed change (account_at accounts place))
changed_at shares accounts place old new change are below is made =
    let value : Arc Account Global → Account = λ one. arc_value one in
    let there : account_at accounts place ≡ arc_value old = ap (λ (list : List Account). account_at list place) (sym are) ∙ get_or-map value shares place old empty_account below ∙ ap value (sym is) in
    map-set value shares place new ∙ ap (λ (list : List Account). set list place (arc_value new)) are ∙ ap (λ (account : Account). set accounts place account) (made ∙ ap (changed change) (sym there))

-- and so the sum of the lamports
pub lamports_set : (accounts after : List Account) (place : ℕ) (account : Account) → place < length accounts
    → after ≡ set accounts place account
    → lamports_in after + (account_at accounts place).lamports ≡ lamports_in accounts + account.lamports
lamports_set accounts after place account below is =
    let one = sum_by-set (λ (one : Account). one.lamports) accounts place account empty_account below in
    let same : lamports_in after ≡ lamports_in (set accounts place account) = ap lamports_in is in
    omega arith
