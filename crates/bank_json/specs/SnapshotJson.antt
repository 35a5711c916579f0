-- Snapshots as JSON (the project's own form), and the bytes that such JSON stands for. An object's
-- members are in the order of their names.
use Rattle.std.specs.Prelude.{ℕ, ◌-◌, ◌^◌, ◌==◌, List, [], ◌∷◌, ◌++◌, length, codes, if◌then◌else◌, Bool, bytes_eq, take, Result, Ok, Err}
use Rattle.std.specs.Int.{w32, w64, to_le_bytes}
use Rattle.spec_base.specs.Reading.{◌>>=◌}
use Rattle.serde_json.specs.Data.{Data, boolean, object, member, no_members}
use Rattle.sol_base.specs.declared.key.Key.{Key}
use Rattle.sol_base.specs.declared.key.Hash32.{Hash32}
use Rattle.sol_base.specs.declared.account.Account.{Account}
use Rattle.sol_base.specs.declared.limits.Limits.{Limits}
use Rattle.sol_base.specs.Limits.{max_transactions, max_transaction_keys, max_stack_height, max_block_units}
use Rattle.sol_base.specs.Accounts.{max_data_len}
use Rattle.status_cache.specs.declared.recent.Mark.{Mark}
use Rattle.status_cache.specs.Recent.{max_marks}
use Rattle.account_store.specs.State.{entries}
use Rattle.snapshot_codec.specs.declared.snapshot.Snapshot.{Snapshot}
use Rattle.snapshot_codec.specs.declared.snapshot.Prefix.{Prefix}
use Rattle.snapshot_codec.specs.declared.fault.SnapshotFault.{SnapshotFault}
use Rattle.snapshot_codec.specs.Snapshot.{account_bytes, limits_bytes, max_accounts}
use Rattle.snapshot_codec.specs.SnapshotReading.{prefix_of}
use Rattle.json_parts.specs.declared.fault.JsonFault.TheVariants.{BadSnapshot, Trailing}
use Rattle.json_parts.specs.Faults.{Read}
use Rattle.json_parts.specs.Written.{hex_json, number_json, list_json}
use Rattle.json_parts.specs.Parts.{number_in, digits_in, data_in, flag_in, member_in, known_in, list_in}

-- ---- what is written

abbrev pub name_json : Hash32 → Data
name_json name = hex_json name.0

abbrev pub mark_json : Mark → Data
mark_json mark =
    object (member (codes "hash") (hex_json mark.hash.0)
    (member (codes "messages") (list_json name_json mark.messages) no_members))

abbrev pub account_json : Key × Account → Data
account_json (key, account) =
    object (member (codes "data") (hex_json account.bytes)
    (member (codes "executable") (boolean account.executable)
    (member (codes "key") (hex_json key.0)
    (member (codes "lamports") (number_json account.lamports)
    (member (codes "owner") (hex_json account.owner.0) no_members)))))

abbrev pub limits_json : Limits → Data
limits_json limits =
    object (member (codes "block_units") (number_json limits.block_units)
    (member (codes "height") (number_json limits.height)
    (member (codes "key_units") (number_json limits.key_units)
    (member (codes "keys") (number_json limits.keys) no_members))))

-- version 1 stands for the first limits, and has no member for them
abbrev pub snapshot_json_one : Snapshot → Data
snapshot_json_one snapshot =
    object (member (codes "accounts") (list_json account_json (entries snapshot.accounts))
    (member (codes "format") (number_json 1)
    (member (codes "recent") (list_json mark_json snapshot.recent)
    (member (codes "slot") (number_json snapshot.slot) no_members))))

abbrev pub snapshot_json_two : Snapshot → Data
snapshot_json_two snapshot =
    object (member (codes "accounts") (list_json account_json (entries snapshot.accounts))
    (member (codes "format") (number_json 2)
    (member (codes "limits") (limits_json snapshot.limits)
    (member (codes "recent") (list_json mark_json snapshot.recent)
    (member (codes "slot") (number_json snapshot.slot) no_members)))))

-- bytes of version 1
abbrev pub is_first : List ℕ → Bool
is_first bytes = bytes_eq (take 8 bytes) (codes "SOLSNAP1")

abbrev pub snapshot_json : List ℕ → Snapshot → Data
snapshot_json bytes snapshot =
    if is_first bytes then snapshot_json_one snapshot else snapshot_json_two snapshot

-- the JSON of a snapshot that the bytes begin with, where it is all of them
abbrev pub json_by_prefix : List ℕ → Result Prefix SnapshotFault → Read Data
json_by_prefix bytes (Err fault) = Err (BadSnapshot fault)
json_by_prefix bytes (Ok prefix) =
    if prefix.length == length bytes then Ok (snapshot_json bytes prefix.snapshot)
    else Err (Trailing prefix.length)

unfoldable pub data_of_snapshot : List ℕ → Read Data
data_of_snapshot bytes = json_by_prefix bytes (prefix_of bytes)

-- ---- what is read

abbrev pub mark_names : List (List ℕ)
mark_names = codes "hash" ∷ codes "messages" ∷ []

abbrev pub account_names : List (List ℕ)
account_names = codes "data" ∷ codes "executable" ∷ codes "key" ∷ codes "lamports" ∷ codes "owner" ∷ []

abbrev pub limits_names : List (List ℕ)
limits_names = codes "block_units" ∷ codes "height" ∷ codes "key_units" ∷ codes "keys" ∷ []

-- a member `shown` is passed over
abbrev pub first_names : List (List ℕ)
first_names = codes "accounts" ∷ codes "format" ∷ codes "recent" ∷ codes "shown" ∷ codes "slot" ∷ []

abbrev pub second_names : List (List ℕ)
second_names =
    codes "accounts" ∷ codes "format" ∷ codes "limits" ∷ codes "recent" ∷ codes "shown" ∷ codes "slot" ∷ []

abbrev pub hash_in : Data → Read (List ℕ)
hash_in d = digits_in 32 d

unfoldable pub mark_in : Data → Read (List ℕ)
mark_in d = do
  known ← known_in mark_names d
  hash ← member_in (codes "hash") (digits_in 32) d
  names ← member_in (codes "messages") (list_in max_transactions hash_in) d
  Ok (hash ++ to_le_bytes w32 names.0 ++ names.1)

unfoldable pub account_in : Data → Read (List ℕ)
account_in d = do
  known ← known_in account_names d
  key ← member_in (codes "key") (digits_in 32) d
  lamports ← member_in (codes "lamports") (number_in 1 (2 ^ 64 - 1)) d
  owner ← member_in (codes "owner") (digits_in 32) d
  executable ← member_in (codes "executable") flag_in d
  content ← member_in (codes "data") (data_in max_data_len) d
  Ok (account_bytes (
    record { 0 = key },
    record {
      lamports = lamports;
      owner = record { 0 = owner };
      executable = executable;
      bytes = content;
    },
  ))

unfoldable pub limits_in : Data → Read (List ℕ)
limits_in d = do
  known ← known_in limits_names d
  keys ← member_in (codes "keys") (number_in 1 max_transaction_keys) d
  height ← member_in (codes "height") (number_in 1 max_stack_height) d
  key_units ← member_in (codes "key_units") (number_in 1 max_block_units) d
  block_units ← member_in (codes "block_units") (number_in 1 max_block_units) d
  Ok (limits_bytes (record {
    keys = keys;
    height = height;
    key_units = key_units;
    block_units = block_units;
  }))

-- the marks and the accounts, each behind their number
unfoldable pub sections_in : Data → Read (List ℕ)
sections_in d = do
  recent ← member_in (codes "recent") (list_in max_marks mark_in) d
  accounts ← member_in (codes "accounts") (list_in max_accounts account_in) d
  Ok (to_le_bytes w32 recent.0 ++ recent.1 ++ to_le_bytes w32 accounts.0 ++ accounts.1)

unfoldable pub first_in : Data → Read (List ℕ)
first_in d = do
  known ← known_in first_names d
  slot ← member_in (codes "slot") (number_in 0 (2 ^ 64 - 1)) d
  sections ← sections_in d
  Ok (codes "SOLSNAP1" ++ to_le_bytes w64 slot ++ sections)

unfoldable pub second_in : Data → Read (List ℕ)
second_in d = do
  known ← known_in second_names d
  slot ← member_in (codes "slot") (number_in 0 (2 ^ 64 - 1)) d
  limits ← member_in (codes "limits") limits_in d
  sections ← sections_in d
  Ok (codes "SOLSNAP2" ++ to_le_bytes w64 slot ++ limits ++ sections)

abbrev pub version_in : ℕ → Data → Read (List ℕ)
version_in format d = if format == 1 then first_in d else second_in d

-- the bytes that the members spell
unfoldable pub snapshot_in : Data → Read (List ℕ)
snapshot_in d = do
  format ← member_in (codes "format") (number_in 1 2) d
  version_in format d

-- the bytes, where they begin with a snapshot
abbrev pub if_snapshot : List ℕ → Result Prefix SnapshotFault → Read (List ℕ)
if_snapshot bytes (Ok prefix) = Ok bytes
if_snapshot bytes (Err fault) = Err (BadSnapshot fault)

-- the bytes of the snapshot that the JSON is
unfoldable pub snapshot_of_data : Data → Read (List ℕ)
snapshot_of_data d = do
  bytes ← snapshot_in d
  if_snapshot bytes (prefix_of bytes)
