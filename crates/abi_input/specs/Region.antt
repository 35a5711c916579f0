-- The input region of a frame, in Solana's aligned layout: what a program finds of its accounts,
-- its instruction and its own key, and what it writes of them. That nothing else counts of what it
-- writes is the project's own.
use Rattle.std.specs.Prelude.{ℕ, ◌+◌, ◌-◌, ◌%◌, ◌^◌, ◌≤◌, ◌==◌, ◌||◌, Bool, List, [], ◌∷◌, ◌++◌, length, map, take, drop, replicate, sum_by, slice_get, nat_lt, unwrap_or, Option, Some, None, Result, Ok, Err, if◌then◌else◌}
use Rattle.std.specs.List.{enumerate_from, find, flat_map, position_or_len}
use Rattle.std.specs.Int.{w64, to_le_bytes, from_bool}
use Rattle.spec_base.specs.Bytes.{max_count, number_from, with_bytes}
use Rattle.sol_base.specs.declared.key.Key.{Key}
use Rattle.sol_base.specs.declared.account.Account.{Account}
use Rattle.sol_base.specs.declared.lock.Meta.{Meta}
use Rattle.sol_base.specs.Accounts.{empty_account, max_data_len}
use Rattle.sol_base.specs.Metas.{is_listed, is_listed_signer, is_listed_writable, is_first_listing, first_listings}
use Rattle.abi_input.specs.declared.entry.TheConstants.{MAX_GROWTH, NOT_LISTED_BEFORE}
pub use Rattle.sol_base.specs.Metas.{max_metas}

-- the most bytes of an instruction's data (the project's own): as many as have a compact length
abbrev pub max_input_len : ℕ
max_input_len = max_count

-- the byte before the entry of an account that was not listed before (Solana)
abbrev pub not_listed_before : ℕ
not_listed_before = NOT_LISTED_BEFORE

-- zero bytes up to a multiple of 8
abbrev pub padding : ℕ → ℕ
padding len = (8 - len % 8) % 8

-- an account and a key by their place among the transaction's keys
abbrev pub account_in : List Account → ℕ → Account
account_in accounts index = unwrap_or (slice_get accounts index) empty_account

abbrev pub key_in : List Key → ℕ → Key
key_in keys index = unwrap_or (slice_get keys index) (record { 0 = [] })

-- the place in the list of the first meta that lists the account
abbrev pub first_place : List Meta → ℕ → ℕ
first_place metas index = position_or_len (λ meta. meta.index == index) metas

abbrev pub number_bytes : ℕ → List ℕ
number_bytes number = to_le_bytes w64 number

-- what a program may change of an account: its owner, lamports, length and data, and zeros as far
-- as the data may grow
unfoldable pub state_bytes : ℕ → Account → List ℕ
state_bytes room account =
    account.owner.0 ++ number_bytes account.lamports ++ number_bytes (length account.bytes)
    ++ account.bytes ++ replicate (room - length account.bytes) 0

-- how many data bytes an account may come to have in a frame that it starts with this one
abbrev pub room_of : Account → ℕ
room_of account = length account.bytes + MAX_GROWTH

-- an account where it is listed first
unfoldable pub first_entry : Bool → Bool → Key → Account → List ℕ
first_entry signer writable key account =
    (not_listed_before ∷ from_bool signer ∷ from_bool writable ∷ from_bool account.executable
    ∷ replicate 4 0) ++ key.0 ++ state_bytes (room_of account) account
    ++ replicate (padding (length account.bytes)) 0 ++ number_bytes (2 ^ 64 - 1)

-- an account that was listed before: its first place in the list
abbrev pub repeated_entry : ℕ → List ℕ
repeated_entry place = place ∷ replicate 7 0

-- what the region has of one meta, given with its place in the list
abbrev pub entry_of : List Key → List Account → List Meta → ℕ × Meta → List ℕ
entry_of keys accounts metas item = let index = item.1.index in
    if is_first_listing metas item
    then first_entry (is_listed_signer metas index) (is_listed_writable metas index)
    (key_in keys index) (account_in accounts index)
    else repeated_entry (first_place metas index)

-- the bytes of the region: the accounts of the list, the instruction's data and the program's key
unfoldable pub input_of : List Key → List Account → List Meta → List ℕ → Key → List ℕ
input_of keys accounts metas input program =
    number_bytes (length metas) ++ flat_map (entry_of keys accounts metas) (enumerate_from 0 metas)
    ++ number_bytes (length input) ++ input ++ program.0

-- how many bytes the entry of an account has
abbrev pub first_size : Account → ℕ
first_size account = 88 + room_of account + padding (length account.bytes) + 8

-- how many bytes the region has of one meta
abbrev pub entry_size : List Account → List Meta → ℕ × Meta → ℕ
entry_size start metas item =
    if is_first_listing metas item then first_size (account_in start item.1.index) else 8

-- where the entry of the meta at a place of the list starts; for the place after the last, where
-- the entries end
unfoldable pub entry_start : List Account → List Meta → ℕ → ℕ
entry_start start metas place =
    8 + sum_by (entry_size start metas) (take place (enumerate_from 0 metas))

-- where the entry of an account starts that is listed
abbrev pub first_entry_start : List Account → List Meta → ℕ → ℕ
first_entry_start start metas index = entry_start start metas (first_place metas index)

-- the account with the place where its data begin, if it has any
abbrev pub lent_of : ℕ → Account → List (ℕ × Account)
lent_of place account = if length account.bytes == 0 then [] else (place, account) ∷ []

-- what the region lends for one meta
abbrev pub lent_entry : List Account → List Account → List Meta → ℕ × Meta → List (ℕ × Account)
lent_entry start now metas item =
    if is_first_listing metas item
    then lent_of (entry_start start metas item.0 + 88) (account_in now item.1.index) else []

-- the accounts, as they are now, whose data a region lends that was laid out from those at the
-- start, each with the place where its data begin
unfoldable pub lent_in : List Account → List Account → List Meta → List (ℕ × Account)
lent_in start now metas = flat_map (lent_entry start now metas) (enumerate_from 0 metas)

-- a list of bytes that is long enough for the entries of these accounts
abbrev pub IsRegionOf : List Account → List Meta → List ℕ → Type 0
IsRegionOf start metas region = entry_start start metas (length metas) ≤ length region

-- the lamports of an account, as they stand in its entry
abbrev pub lamports_at : List ℕ → ℕ → ℕ
lamports_at region entry = number_from region (entry + 72)

-- the length of an account's data, as it stands in its entry
abbrev pub data_len_at : List ℕ → ℕ → ℕ
data_len_at region entry = number_from region (entry + 80)

-- an account with the owner, the lamports and the data that stand in its entry
unfoldable pub account_at : List ℕ → ℕ → Account → Account
account_at region entry account = record account {
  owner = record { 0 = take 32 (drop (entry + 40) region) };
  lamports = lamports_at region entry;
  bytes = take (data_len_at region entry) (drop (entry + 88) region);
}

-- data of this length are longer than an account may come to be that started the frame as this one
abbrev pub has_outgrown : Account → ℕ → Bool
has_outgrown start len = nat_lt (room_of start) len

-- the entry of a first listing has a length that the account may not have
abbrev pub is_too_long : List ℕ → List Account → List Meta → ℕ × Meta → Bool
is_too_long region start metas item =
    let len = data_len_at region (entry_start start metas item.0) in
    has_outgrown (account_in start item.1.index) len || nat_lt max_data_len len

-- an account, given with its place among the transaction's keys, as it stands at its first listing
abbrev pub account_back : List ℕ → List Account → List Meta → ℕ × Account → Account
account_back region start metas item =
    if is_listed metas item.0
    then account_at region (first_entry_start start metas item.0) item.1
    else item.1

-- a value, unless there is a meta that must not be: then its place in the list
abbrev pub unless_found : {X : Type 0} → Option (ℕ × Meta) → X → Result X ℕ
unless_found None value = Ok value
unless_found (Some item) value = Err item.0

-- the accounts as they stand in the region, or the place in the list of the first that is too long
unfoldable pub back : List ℕ → List Account → List Account → List Meta → Result (List Account) ℕ
back region start now metas =
    unless_found (find (is_too_long region start metas) (first_listings metas))
    (map (account_back region start metas) (enumerate_from 0 now))

-- an entry with the state of the account written over it
abbrev pub over_entry : Account → Account → List ℕ → List ℕ
over_entry start account entry = with_bytes entry 40 (state_bytes (room_of start) account)

-- what the region has of one meta, after the state of the account was written over it
abbrev pub patched_entry : List ℕ → List Account → List Account → List Meta → ℕ × Meta → List ℕ
patched_entry region start now metas item =
    let index = item.1.index in
    let entry = take (entry_size start metas item) (drop (entry_start start metas item.0) region) in
    if is_first_listing metas item
    then over_entry (account_in start index) (account_in now index) entry else entry

-- the account of a meta has outgrown its place in the region
abbrev pub is_outgrown : List Account → List Account → ℕ × Meta → Bool
is_outgrown start now item =
    has_outgrown (account_in start item.1.index) (length (account_in now item.1.index).bytes)

-- the region with the states of the accounts written over it, or the place in the list of the first
-- that has outgrown it
unfoldable pub patched : List ℕ → List Account → List Account → List Meta → Result (List ℕ) ℕ
patched region start now metas =
    unless_found (find (is_outgrown start now) (first_listings metas))
    (take 8 region ++ flat_map (patched_entry region start now metas) (enumerate_from 0 metas)
    ++ drop (entry_start start metas (length metas)) region)
