-- A state: the accounts that are there, by their keys, each with at least 1 lamport (Solana).
use Rattle.std.specs.Prelude.{◌≡◌, ℕ, ◌-◌, ◌^◌, ◌≤◌, ◌==◌, List, ◌++◌, not, sum_by, filter, slice_get, Bool, true, false, if◌then◌else◌, Option, Some, None, unwrap_or}
use Rattle.std.specs.List.{AllByRecursion}
use Rattle.std.specs.Ordering.{is_lt}
use Rattle.std.specs.FinMap as map
use Rattle.sol_base.specs.declared.key.Key.{Key}
use Rattle.sol_base.specs.declared.account.Account.{Account}
use Rattle.sol_base.specs.Keys.{key_cmp, has_key}
use Rattle.sol_base.specs.Accounts.{empty_account, IsShort}

abbrev pub State : Type 0
State = map.FinMap key_cmp Account

abbrev pub empty : State
empty = map.empty

-- the account of a key that is there
abbrev pub get : State → Key → Option Account
get s key = map.get s key

-- the account of a key, or the empty account
abbrev pub at : State → Key → Account
at s key = unwrap_or (get s key) empty_account

abbrev pub remove : State → Key → State
remove s key = map.remove s key

-- Writing an account with 0 lamports takes the key away.
abbrev pub put : State → Key → Account → State
put s key account = if account.lamports == 0 then map.remove s key else map.insert s key account

-- what an account is kept as: with 0 lamports it is absent
abbrev pub kept : Account → Option Account
kept account = if account.lamports == 0 then None else Some account

-- the account that then stands for it
abbrev pub settled : Account → Account
settled account = if account.lamports == 0 then empty_account else account

-- the state but for the accounts of these keys
abbrev pub without : State → List Key → State
without s keys = map.retain_keys s (λ key. not (has_key key keys))

-- these accounts, and under all other keys those of the state
abbrev pub with_entries : State → List (Key × Account) → State
with_entries s es = map.from_entries (es ++ map.entries s)

-- the number of keys
abbrev pub len : State → ℕ
len s = map.len s

-- the accounts with their keys, the keys ascending
abbrev pub entries : State → List (Key × Account)
entries s = map.entries s

-- the lamports of all accounts together
abbrev pub lamports_of : List (Key × Account) → ℕ
lamports_of es = sum_by (λ e. e.1.lamports) es

abbrev pub sum : State → ℕ
sum s = lamports_of (entries s)

-- the lamports under keys
abbrev pub lamports_under : (Key → Account) → List Key → ℕ
lamports_under accounts keys = sum_by (λ key. (accounts key).lamports) keys

-- two states show the same under all keys but these
abbrev pub AgreeElsewhere : State → State → List Key → Type 0
AgreeElsewhere s t keys = (key : Key) → has_key key keys ≡ false → at s key ≡ at t key

-- whether a key is above the given one; where none is given, each is
abbrev pub is_above : Option Key → Key → Bool
is_above None key = true
is_above (Some given) key = is_lt (key_cmp given key)

-- the accounts whose keys are above the given one, the keys ascending
abbrev pub entries_after : State → Option Key → List (Key × Account)
entries_after s given = filter (λ e. is_above given e.0) (entries s)

-- the first of these
abbrev pub next_after : State → Option Key → Option (Key × Account)
next_after s given = slice_get (entries_after s given) 0

-- an account that is there has a lamport, and data of a length that is allowed
abbrev pub IsHeld : Account → Type 0
IsHeld account = (1 ≤ account.lamports) × IsShort account

-- what holds of every state that a store keeps
pub record IsState (s : State) : Type 0 where
  pub held : AllByRecursion (λ e. IsHeld e.1) (entries s)
  pub fits : sum s ≤ 2 ^ 64 - 1
