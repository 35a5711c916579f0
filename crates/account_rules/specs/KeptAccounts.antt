-- What accounts keep that break no rule.
use Rattle.std.specs.Prelude.{◌≡◌, ◌⊎◌, ℕ, ◌≤◌, Bool, true, false, All, List, length, slice_get, Some}
use Rattle.sol_base.specs.Keys.{has_key}
use Rattle.sol_base.specs.declared.key.Key.{Key}
use Rattle.sol_base.specs.declared.account.Account.{Account}
use Rattle.sol_base.specs.Accounts.{AreShort, IsShort, lamports_in}
use Rattle.account_rules.specs.AccountRules.{Change, changes}

-- what an account keeps that breaks none of rules 1 to 6
pub record IsKept (program : Key) (writable : Bool) (before after : Account) : Type 0 where
  pub readonly : writable ≡ false → before ≡ after
  pub executable : before.executable ≡ true → before ≡ after
  pub flag : before.executable ≡ after.executable
  pub owner : (before.owner ≡ after.owner) ⊎ ((before.owner ≡ program)
      × All (λ byte. byte ≡ 0) after.bytes)
  pub lamports : (before.lamports ≤ after.lamports) ⊎ (before.owner ≡ program)
  pub bytes : (before.bytes ≡ after.bytes) ⊎ (before.owner ≡ program)
  pub size : IsShort after

-- each account keeps that, and all together their lamports
pub record AreKept (program : Key) (writable : List Bool) (before after : List Account) : Type 0
  where
    pub each : All (λ (change : Change). IsKept program change.1.0 change.1.1.0 change.1.1.1)
        (changes writable before after)
    pub sum : lamports_in before ≡ lamports_in after

-- what the accounts of a transaction keep where only those at some places may be written: their
-- number, the sum of their lamports, the accounts at the other places, the programs among them, and
-- that none is too long
pub record AreKeptBy (may_write : ℕ → Bool) (before after : List Account) : Type 0 where
  pub count : length after ≡ length before
  pub lamports : lamports_in after ≡ lamports_in before
  pub readonly : (place : ℕ) → may_write place ≡ false
      → slice_get after place ≡ slice_get before place
  -- an executable account stays, and no account becomes executable
  pub programs : (place : ℕ) (account : Account) → slice_get before place ≡ Some account
      → account.executable ≡ true → slice_get after place ≡ Some account
  pub no_new : (place : ℕ) (account : Account) → slice_get after place ≡ Some account
      → account.executable ≡ true → slice_get before place ≡ Some account
  pub short : AreShort before → AreShort after

-- what an account keeps while its owner does not run: its owner, its data and all its lamports
pub record IsForeignKept (before after : Account) : Type 0 where
  pub owner : after.owner ≡ before.owner
  pub bytes : after.bytes ≡ before.bytes
  pub lamports : before.lamports ≤ after.lamports

-- each account keeps that whose owner is none of these programs
abbrev pub AreForeignKept : List Key → List Account → List Account → Type 0
AreForeignKept programs before after =
    (place : ℕ) (was is : Account) → slice_get before place ≡ Some was
    → slice_get after place ≡ Some is → has_key was.owner programs ≡ false → IsForeignKept was is
