-- Accounts that are shared.
use Rattle.std.specs.Prelude.{◌≡◌, ℕ, List, map as each, Option, Some, None}
use Rattle.std.specs.Arc.{arc_value}
use Rattle.std.specs.Borrow.{Bor}
use Rattle.std.specs.FinMap as map
use Rattle.std.specs.Map.{keys_of}
use Rattle.std.specs.List.Sorted.{IsStrictlySortedBy}
use Rattle.std.specs.declared.sync.Arc.{Arc}
use Rattle.std.specs.declared.alloc.Global.{Global}
use Rattle.sol_base.specs.declared.key.Key.{Key}
use Rattle.sol_base.specs.declared.account.Account.{Account}
use Rattle.sol_base.specs.Keys.{key_cmp}
use Rattle.account_store.specs.State.{State, sum, IsState}

abbrev pub Shared : Type 0
Shared = Arc Account Global

-- the accounts behind the shares
abbrev pub seen : List (Key × Shared) → List (Key × Account)
seen es = each (λ e. (e.0, arc_value e.1)) es

-- and those behind what an iterator gives
abbrev pub seen_entry : Bor Key × Bor Shared → Key × Account
seen_entry e = (e.0.now, arc_value e.1.now)

abbrev pub state_seen : List (Key × Shared) → State
state_seen es = map.from_entries (seen es)

-- what a store keeps of its map and its sum
pub record IsKept (es : List (Key × Shared)) (total : ℕ) : Type 0 where
  pub ascends : IsStrictlySortedBy key_cmp (keys_of es)
  pub counted : total ≡ sum (state_seen es)
  pub is_state : IsState (state_seen es)

-- the lamports of an account that may be there
abbrev pub shared_lamports : Option Shared → ℕ
shared_lamports None = 0
shared_lamports (Some share) = let account : Account = arc_value share in account.lamports
