-- What a frame keeps, and what it looks at.
use Rattle.std.specs.Prelude.{◌≡◌, ℕ, Some, length, List, slice_get, MatchResult}
use Rattle.sol_base.specs.declared.key.Key.{Key}
use Rattle.sol_base.specs.declared.account.Account.{Account}
use Rattle.sol_base.specs.declared.lock.Meta.{Meta}
use Rattle.sol_base.specs.Metas.{AreInRange, is_listed_writable}
use Rattle.account_rules.specs.KeptAccounts.{AreKeptBy}
use Rattle.program_cache.specs.Programs.{Sought}
use Rattle.invoke_engine.specs.Frame.{Ending}

-- as many accounts as the transaction has keys, and a list that names accounts that are there
pub record AreListed (n : ℕ) (metas : List Meta) (accounts : List Account) : Type 0 where
  pub count : length accounts ≡ n
  pub range : AreInRange n metas

-- where a frame ended well, it kept the accounts as its list asks
abbrev pub EndingKeeps : List Meta → List Account → Ending → Type 0
EndingKeeps metas before e =
    MatchResult e.result (λ after. AreKeptBy (is_listed_writable metas) before after)
    (λ _. Unit {0})

-- both find one thing under each of the keys
abbrev pub SameFound : List Key → (Key → Sought) → (Key → Sought) → Type 0
SameFound keys one other =
    (place : ℕ) (key : Key) → slice_get keys place ≡ Some key → one key ≡ other key
