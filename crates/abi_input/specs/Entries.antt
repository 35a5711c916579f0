-- Where the entries of accounts stand in a region, as a walk over the list of metas finds them.
use Rattle.std.specs.Prelude.{◌≡◌, ℕ, ◌+◌, ◌<◌, ◌≤◌, List, Bool, length, take, if◌then◌else◌, Option, Some, None}
use Rattle.std.specs.List.{enumerate_from, find, filter, slice_index_or}
use Rattle.sol_base.specs.declared.account.Account.{Account}
use Rattle.sol_base.specs.declared.lock.Meta.{Meta}
use Rattle.sol_base.specs.Metas.{is_listed, is_first_listing}
use Rattle.data_parts.specs.Parts.{IsLentAt}
use Rattle.abi_input.specs.Region.{account_at, data_len_at, first_entry_start}

-- where the entry of an account starts, if it is among the first so many metas
abbrev pub entry_among : List Account → List Meta → ℕ → ℕ → Option ℕ
entry_among start metas count index =
    if is_listed (take count metas) index then Some (first_entry_start start metas index) else None

-- so it stands in a table for each account
abbrev pub AreEntries : List Account → List Meta → ℕ → List (Option ℕ) → Type 0
AreEntries start metas count entries =
    (index : ℕ) → slice_index_or entries index None ≡ entry_among start metas count index

-- the first of so many metas that is a first listing and passes the test
abbrev pub found_among : (ℕ × Meta → Bool) → List Meta → ℕ → Option (ℕ × Meta)
found_among test metas count =
    find test (filter (is_first_listing metas) (take count (enumerate_from 0 metas)))

-- an account as it stands in its entry, if it has one
abbrev pub account_by : List ℕ → Option ℕ → Account → Account
account_by region None account = account
account_by region (Some entry) account = account_at region entry account

-- an entry stands at a place of the region, with all data that it says it has
abbrev pub IsEntryOf : List ℕ → ℕ → Type 0
IsEntryOf region entry = entry + 88 + data_len_at region entry ≤ length region

-- the data of the account, if it has any, are those that were lent from a place on
abbrev pub AreLent : List (ℕ × Account) → ℕ → Account → Type 0
AreLent lent at account = 0 < length account.bytes → IsLentAt lent at account
