-- Snapshots of a chain as bytes, in two versions (the project's own format). Only the second is
-- written.
use Rattle.std.specs.Prelude.{◌≡◌, ℕ, ◌≤◌, ◌<◌, ◌^◌, List, [], ◌∷◌, ◌++◌, length, take, All, codes, Bool, if◌then◌else◌, ◌⊎◌}
use Rattle.std.specs.Int.{w16, w32, w64, to_le_bytes}
use Rattle.std.specs.List.{flat_map}
use Rattle.sha2.specs.Sha256.{sha256}
use Rattle.sol_base.specs.declared.key.Key.{Key}
use Rattle.sol_base.specs.declared.key.Hash32.{Hash32}
use Rattle.sol_base.specs.declared.account.Account.{Account}
use Rattle.sol_base.specs.declared.limits.Limits.{Limits}
use Rattle.sol_base.specs.Keys.{IsKey, IsHash, key_bytes, hash_bytes}
use Rattle.sol_base.specs.Limits.{first_limits, max_transactions, max_block_units, max_stack_height, max_transaction_keys}
use Rattle.status_cache.specs.declared.recent.Mark.{Mark}
use Rattle.status_cache.specs.Recent.{IsRecent}
use Rattle.account_store.specs.State.{State, IsState, entries, len}
use Rattle.snapshot_codec.specs.declared.snapshot.Snapshot.{Snapshot}
use Rattle.snapshot_codec.specs.declared.snapshot.Prefix.{Prefix}
use Rattle.snapshot_codec.specs.declared.accounts.TheConstants.{MAX_ACCOUNTS}

-- a block: its hash, the number of its messages, and their names
abbrev pub mark_bytes : Mark → List ℕ
mark_bytes mark =
    hash_bytes mark.hash ++ to_le_bytes w32 (length mark.messages)
    ++ flat_map hash_bytes mark.messages

-- the newest blocks, newest first
abbrev pub marks_bytes : List Mark → List ℕ
marks_bytes marks = to_le_bytes w32 (length marks) ++ flat_map mark_bytes marks

abbrev pub flag : Bool → ℕ
flag is_set = if is_set then 1 else 0

abbrev pub account_bytes : Key × Account → List ℕ
account_bytes (key, account) =
    key_bytes key ++ to_le_bytes w64 account.lamports ++ key_bytes account.owner
    ++ flag account.executable ∷ []
    ++ to_le_bytes w32 (length account.bytes) ++ account.bytes

-- the number of accounts, and the accounts
abbrev pub accounts_bytes : List (Key × Account) → List ℕ
accounts_bytes accounts = to_le_bytes w32 (length accounts) ++ flat_map account_bytes accounts

-- the state section: the accounts, their keys ascending
abbrev pub state_bytes : State → List ℕ
state_bytes state = accounts_bytes (entries state)

-- its hash
abbrev pub hash_of_state : State → Hash32
hash_of_state state = record { 0 = sha256 (state_bytes state) }

abbrev pub limits_bytes : Limits → List ℕ
limits_bytes limits =
    to_le_bytes w16 limits.keys ++ limits.height ∷ [] ++ to_le_bytes w64 limits.key_units
    ++ to_le_bytes w64 limits.block_units

-- version 1, which stands for the first limits
abbrev pub snapshot_bytes_one : Snapshot → List ℕ
snapshot_bytes_one snapshot =
    codes "SOLSNAP1" ++ to_le_bytes w64 snapshot.slot ++ marks_bytes snapshot.recent
    ++ state_bytes snapshot.accounts

-- version 2, which carries the limits
abbrev pub snapshot_bytes : Snapshot → List ℕ
snapshot_bytes snapshot =
    codes "SOLSNAP2" ++ to_le_bytes w64 snapshot.slot ++ limits_bytes snapshot.limits
    ++ marks_bytes snapshot.recent
    ++ state_bytes snapshot.accounts

-- the number lies from 1 to the greatest
abbrev pub IsUpTo : ℕ → ℕ → Type 0
IsUpTo most n = (1 ≤ n) × (n ≤ most)

-- the most accounts of a snapshot (the project's own)
abbrev pub max_accounts : ℕ
max_accounts = MAX_ACCOUNTS

-- what limits a chain may have
pub record AreAllowed (limits : Limits) : Type 0 where
  pub keys : IsUpTo max_transaction_keys limits.keys
  pub height : IsUpTo max_stack_height limits.height
  pub key_units : IsUpTo max_block_units limits.key_units
  pub block_units : IsUpTo max_block_units limits.block_units

-- a snapshot that is read: within the limits of the format
pub record IsReadable (snapshot : Snapshot) : Type 0 where
  pub limits : AreAllowed snapshot.limits
  pub recent : IsRecent snapshot.recent
  pub messages : All (λ mark. length mark.messages ≤ max_transactions) snapshot.recent
  pub state : IsState snapshot.accounts
  pub accounts : len snapshot.accounts ≤ max_accounts

-- a snapshot that is written: its numbers fit their fields
pub record IsWritable (snapshot : Snapshot) : Type 0 where
  pub limits : AreAllowed snapshot.limits
  pub messages : All (λ mark. length mark.messages < 2 ^ 32) snapshot.recent
  pub accounts : len snapshot.accounts < 2 ^ 32

-- what the types of the fields say of every value
pub record HasWidths (snapshot : Snapshot) : Type 0 where
  pub slot : snapshot.slot < 2 ^ 64
  pub hashes : All (λ mark. IsHash mark.hash) snapshot.recent
  pub names : All (λ mark. All IsHash mark.messages) snapshot.recent
  pub keys : All (λ e. IsKey e.0) (entries snapshot.accounts)
  pub owners : All (λ e. IsKey e.1.owner) (entries snapshot.accounts)

-- the bytes spell the snapshot in one of the two versions
abbrev pub Spells : List ℕ → Snapshot → Type 0
Spells bytes snapshot =
    (bytes ≡ snapshot_bytes snapshot) ⊎ ((bytes ≡ snapshot_bytes_one snapshot)
    × (snapshot.limits ≡ first_limits))

-- the bytes begin with the snapshot
pub record BeginsWith (bytes : List ℕ) (prefix : Prefix) : Type 0 where
  pub within : prefix.length ≤ length bytes
  pub spelled : Spells (take prefix.length bytes) prefix.snapshot
  pub readable : IsReadable prefix.snapshot
  pub widths : HasWidths prefix.snapshot
