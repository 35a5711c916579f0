-- The steps of a block: what happens to its accounts, one thing after another.
use Rattle.std.specs.Prelude.{◌≡◌, ℕ, ◌≤◌, true, false, List, [], ◌∷◌, map, if◌then◌else◌}
use Rattle.sol_base.specs.declared.key.Key.{Key}
use Rattle.sol_base.specs.declared.account.Account.{Account}
use Rattle.sol_base.specs.Keys.{has_key, same_key}
use Rattle.account_rules.specs.KeptAccounts.{IsForeignKept}
use Rattle.account_rules.specs.Wallets.{is_wallet}
use Rattle.account_store.specs.State.{settled}
use Rattle.loader_prog.specs.Loader.{active}
use Rattle.tx_exec.specs.Payer.{less}
use Rattle.entry_laws.specs.Left.{paid_to}
use Rattle.entry_laws.specs.Stretches.{Stretch}

-- the account of each key: the empty account where there is none
abbrev pub Accounts : Type 0
Accounts = Key → Account

-- A payer pays a fee; a program runs for a stretch over the accounts of these keys; accounts with no
-- lamports go; and a block ends, with so many lamports for the collector.
pub data Step : Type 0 where
  Pays : Key → ℕ → Step
  Runs : List Key → Stretch → Step
  Clears : Step
  Ends : Key → ℕ → Step

-- the payer is a wallet that has the fee, and its lamports fall by exactly that; nothing else changes
pub record PaysFee (payer : Key) (fee : ℕ) (before after : Accounts) : Type 0 where
  pub wallet : is_wallet (before payer) ≡ true
  pub enough : fee ≤ (before payer).lamports
  pub same : (key : Key)
      → after key ≡ (if same_key key payer then less (before key) fee else before key)

-- the stretch is from the accounts of these keys to those that it left, and the others stay; an
-- account that the program does not own keeps its owner, its data and all its lamports
pub record RunsOver (keys : List Key) (x : Stretch) (before after : Accounts) : Type 0 where
  pub begins : map before keys ≡ x.before
  pub ends : map after keys ≡ x.left
  pub others : (key : Key) → has_key key keys ≡ false → after key ≡ before key
  pub foreign : (key : Key) → same_key (before key).owner x.program ≡ false
      → IsForeignKept (before key) (after key)

-- what a step makes of the accounts; at the end of a block the collector is paid, and the loader
-- makes programs of final buffers
abbrev pub Makes : Step → Accounts → Accounts → Type 0
Makes (Pays payer fee) before after = PaysFee payer fee before after
Makes (Runs keys x) before after = RunsOver keys x before after
Makes Clears before after = (key : Key) → after key ≡ settled (before key)
Makes (Ends collector collected) before after =
    (key : Key) → after key ≡ active (paid_to collector collected key (before key))

-- a step to some accounts, and what holds of them
pub record Then (step : Step) (before : Accounts) (rest : Accounts → Type 0) : Type 0 where
  pub next : Accounts
  pub makes : Makes step before next
  pub on : rest next

-- these steps, one after another, lead from the first accounts to the last
abbrev pub IsPath : Accounts → List Step → Accounts → Type 0
IsPath first [] last = first ≡ last
IsPath first (step ∷ steps) last = Then step first (λ next. IsPath next steps last)
