-- Activation: the programs that become executable, and the accounts while they are put.
use Rattle.std.specs.Prelude.{◌≡◌, List, Option, Some, false, option_map}
use Rattle.std.specs.List.{AllByRecursion, filter_map}
use Rattle.sol_base.specs.declared.key.Key.{Key}
use Rattle.sol_base.specs.declared.account.Account.{Account}
use Rattle.sol_base.specs.Keys.{same_key}
use Rattle.account_store.specs.declared.sorted.KeyedAccount.{KeyedAccount}
use Rattle.account_store.specs.State.{State, IsState, entries, get}
use Rattle.loader_prog.specs.Loader.{activated, active}

abbrev pub keyed : Key → Account → KeyedAccount
keyed key account = record { key = key; account = account }

-- an account as it is to be, if it becomes executable
abbrev pub activated_entry : Key × Account → Option KeyedAccount
activated_entry e = option_map (keyed e.0) (activated e.1)

-- those that become executable, with their keys
abbrev pub activated_in : State → List KeyedAccount
activated_in state = filter_map activated_entry (entries state)

-- some of these are still to be put, and all others are as they are to be
pub record IsPartly (start now : State) (left : List KeyedAccount) : Type 0 where
  pub state : IsState now
  pub same : (q : Key) → option_map active (get now q) ≡ option_map active (get start q)
  pub ahead : AllByRecursion (λ e. option_map active (get start e.key) ≡ Some e.account) left
  pub others : (q : Key) → AllByRecursion (λ e. same_key q e.key ≡ false) left
      → option_map active (get now q) ≡ get now q
