-- Accounts as values.
use Rattle.std.specs.Prelude.{◌≡◌, ℕ, ◌≤◌, List, [], Bool, false, Some, All, length, map, slice_get, sum_by, replicate, refl}
use Rattle.std.specs.Arc.{arc_value}
use Rattle.std.specs.declared.sync.Arc.{Arc}
use Rattle.std.specs.declared.alloc.Global.{Global}
use Rattle.std.specs.Coded.{Coded, code_by, coded_list, coded_ℕ, coded×, coded_bool}
use Rattle.sol_base.specs.declared.key.Key.{Key}
use Rattle.sol_base.specs.declared.account.Account.{Account}
use Rattle.sol_base.specs.declared.account.TheConstants.{MAX_DATA_LEN}
use Rattle.sol_base.specs.Keys.{coded_key}

-- what an absent account stands for (Solana)
abbrev pub empty_account : Account
empty_account =
    record { lamports = 0; owner = record { 0 = replicate 32 0 }; executable = false; bytes = [] }

-- the accounts behind shares
abbrev pub accounts_of : List (Arc Account Global) → List Account
accounts_of shares = map (λ share. arc_value share) shares

-- the lamports of accounts together
abbrev pub lamports_in : List Account → ℕ
lamports_in accounts = sum_by (λ account. account.lamports) accounts

-- the most data bytes of an account (Solana)
abbrev pub max_data_len : ℕ
max_data_len = MAX_DATA_LEN

-- an account of a length that is allowed
abbrev pub IsShort : Account → Type 0
IsShort account = length account.bytes ≤ max_data_len

abbrev pub AreShort : List Account → Type 0
AreShort accounts = All IsShort accounts

-- an account whose flag is false has the same value before and after
abbrev pub SameUnlessTouched : List Bool → List Account → List Account → Type 0
SameUnlessTouched touched before after =
    (place : ℕ) → slice_get touched place ≡ Some false
    → slice_get after place ≡ slice_get before place

-- accounts as the values of a finite map
abbrev pub coded_account : Coded Account
coded_account =
    code_by (ℕ × (Key × (Bool × List ℕ)))
    (coded× coded_ℕ (coded× coded_key (coded× coded_bool (coded_list coded_ℕ))))
    (λ a. (a.lamports, (a.owner, (a.executable, a.bytes))))
    (λ p. record { lamports = p.0; owner = p.1.0; executable = p.1.1.0; bytes = p.1.1.1 })
    (λ _. refl)
