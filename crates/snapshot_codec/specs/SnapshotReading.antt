-- Reading a snapshot from left to right, with the first refusal that is met.
use Rattle.std.specs.Prelude.{ℕ, ◌+◌, ◌-◌, ◌^◌, List, [], length, codes, bytes_eq, Bool, true, false, ◌==◌, nat_le, ◌&&◌, if◌then◌else◌, option_map, unwrap_or, slice_get, Result, Ok, Err}
use Rattle.std.specs.Int.{Width, w16, w32, w64}
use Rattle.std.specs.Ordering.{is_lt}
use Rattle.std.specs.FinMap as map
use Rattle.spec_base.specs.Reading.{◌>>=◌, place, field_at, byte_at, number_at, read_if, read_as, many_after, many}
use Rattle.sol_base.specs.declared.key.Key.{Key}
use Rattle.sol_base.specs.declared.key.Hash32.{Hash32}
use Rattle.sol_base.specs.declared.limits.Limits.{Limits}
use Rattle.sol_base.specs.Keys.{key_cmp, hash_cmp}
use Rattle.format_fields.specs.Fields.{key_at, hash_at}
use Rattle.sol_base.specs.Limits.{first_limits, max_transactions, max_block_units, max_stack_height, max_transaction_keys}
use Rattle.sol_base.specs.Accounts.{max_data_len}
use Rattle.status_cache.specs.declared.recent.Mark.{Mark}
use Rattle.account_store.specs.declared.sorted.KeyedAccount.{KeyedAccount}
use Rattle.account_store.specs.State.{State, lamports_of}
use Rattle.account_store.specs.Sorted.{entries_of}
use Rattle.snapshot_codec.specs.declared.fault.SnapshotFault.{SnapshotFault}
use Rattle.snapshot_codec.specs.declared.fault.SnapshotFault.TheVariants.{Magic, Truncated, BadField, OutOfOrder, Empty, SupplyTooLarge, TooManyAccounts, DataTooLong, OutOfMemory}
use Rattle.snapshot_codec.specs.declared.snapshot.Snapshot.{Snapshot}
use Rattle.snapshot_codec.specs.declared.snapshot.Prefix.{Prefix}
use Rattle.status_cache.specs.Recent.{max_marks}
use Rattle.snapshot_codec.specs.Snapshot.{max_accounts}

abbrev pub is_snapshot_memory : SnapshotFault → Bool
is_snapshot_memory Magic = false
is_snapshot_memory (Truncated _) = false
is_snapshot_memory (BadField _) = false
is_snapshot_memory (OutOfOrder _) = false
is_snapshot_memory (Empty _) = false
is_snapshot_memory SupplyTooLarge = false
is_snapshot_memory TooManyAccounts = false
is_snapshot_memory (DataTooLong _) = false
is_snapshot_memory OutOfMemory = true

-- what a snapshot holds at the front of the bytes that are left
abbrev pub Read : Type 0 → Type 0
Read X = Result (X × List ℕ) SnapshotFault

-- a number of items, refused where it is above the greatest
abbrev pub count_at : (ℕ → SnapshotFault) → ℕ → ℕ → List ℕ → Read ℕ
count_at refusal most total bytes =
    read_if refusal (λ n. nat_le n most) (number_at Truncated w32 total) total bytes

-- a number from 1 to the greatest
abbrev pub limit_at : ℕ → Width → ℕ → List ℕ → Read ℕ
limit_at most width total bytes =
    read_if BadField (λ n. nat_le 1 n && nat_le n most) (number_at Truncated width total) total
    bytes

abbrev pub height_at : ℕ → List ℕ → Read ℕ
height_at total bytes =
    read_if BadField (λ n. nat_le 1 n && nat_le n max_stack_height) (byte_at Truncated total) total bytes

unfoldable pub limits_at : ℕ → List ℕ → Read Limits
limits_at total bytes = do
  keys ← limit_at max_transaction_keys w16 total bytes
  height ← height_at total keys.1
  key_units ← limit_at max_block_units w64 total height.1
  block_units ← limit_at max_block_units w64 total key_units.1
  Ok (
    record {
      keys = keys.0;
      height = height.0;
      key_units = key_units.0;
      block_units = block_units.0;
    },
    block_units.1,
  )

-- slot and limits, as each version has them
unfoldable pub head_one_at : ℕ → List ℕ → Read (ℕ × Limits)
head_one_at total bytes =
    read_as (λ slot. (slot, first_limits)) (number_at Truncated w64 total) bytes

unfoldable pub head_two_at : ℕ → List ℕ → Read (ℕ × Limits)
head_two_at total bytes = do
  slot ← number_at Truncated w64 total bytes
  limits ← limits_at total slot.1
  Ok ((slot.0, limits.0), limits.1)

-- the first eight bytes name the version
unfoldable pub names_one : List ℕ → Bool
names_one magic = bytes_eq magic (codes "SOLSNAP1")

unfoldable pub names_two : List ℕ → Bool
names_two magic = bytes_eq magic (codes "SOLSNAP2")

abbrev pub version_at : ℕ → List ℕ → List ℕ → Read (ℕ × Limits)
version_at total magic rest =
    if names_one magic then head_one_at total rest else
    if names_two magic then head_two_at total rest else
    Err Magic

unfoldable pub head_at : ℕ → List ℕ → Read (ℕ × Limits)
head_at total bytes = do
  magic ← field_at Truncated total 8 bytes
  version_at total magic.0 magic.1

-- whether the last of the items, if there is one, passes the test
abbrev pub last_passes : {X : Type 0} → (X → Bool) → List X → Bool
last_passes test items = unwrap_or (option_map test (slice_get items (length items - 1))) true

-- a name, above the one before in its mark
unfoldable pub name_after : ℕ → List Hash32 → List ℕ → Read Hash32
name_after total before bytes =
    read_if OutOfOrder (λ name. last_passes (λ last. is_lt (hash_cmp last name)) before)
    (hash_at Truncated total) total bytes

unfoldable pub mark_at : ℕ → List ℕ → Read Mark
mark_at total bytes = do
  hash ← hash_at Truncated total bytes
  count ← count_at BadField max_transactions total hash.1
  names ← many_after (name_after total) [] count.0 count.1
  Ok (record { hash = hash.0; messages = names.0 }, names.1)

unfoldable pub marks_at : ℕ → List ℕ → Read (List Mark)
marks_at total bytes = do
  count ← count_at BadField max_marks total bytes
  many (mark_at total) count.0 count.1

-- a key, above that of the account before
unfoldable pub key_after : ℕ → List KeyedAccount → List ℕ → Read Key
key_after total before bytes =
    read_if OutOfOrder (λ key. last_passes (λ last. is_lt (key_cmp last.key key)) before)
    (key_at Truncated total) total bytes

-- lamports, some, and with those before not more than there can be
unfoldable pub lamports_after : ℕ → List KeyedAccount → List ℕ → Read ℕ
lamports_after total before bytes =
    read_if (λ _. SupplyTooLarge) (λ n. nat_le (lamports_of (entries_of before) + n) (2 ^ 64 - 1))
    (λ rest. read_if Empty (λ n. nat_le 1 n) (number_at Truncated w64 total) total rest) total bytes

unfoldable pub flag_at : ℕ → List ℕ → Read Bool
flag_at total bytes =
    read_as (λ n. n == 1)
    (λ rest. read_if BadField (λ n. nat_le n 1) (byte_at Truncated total) total rest) bytes

-- the data of an account, one field after its length
unfoldable pub data_at : ℕ → List ℕ → Read (List ℕ)
data_at total bytes = do
  count ← count_at DataTooLong max_data_len total bytes
  field_at Truncated total count.0 count.1

-- an account of known lamports at a known key, from its owner on
abbrev pub owned_at : Key → ℕ → ℕ → List ℕ → Read KeyedAccount
owned_at key lamports total bytes = do
  owner ← key_at Truncated total bytes
  executable ← flag_at total owner.1
  field ← data_at total executable.1
  Ok (
    record {
      key = key;
      account = record {
        lamports = lamports;
        owner = owner.0;
        executable = executable.0;
        bytes = field.0;
      };
    },
    field.1,
  )

unfoldable pub account_after : ℕ → List KeyedAccount → List ℕ → Read KeyedAccount
account_after total before bytes = do
  key ← key_after total before bytes
  lamports ← lamports_after total before key.1
  owner ← key_at Truncated total lamports.1
  executable ← flag_at total owner.1
  bytes ← data_at total executable.1
  Ok (
    record {
      key = key.0;
      account = record {
        lamports = lamports.0;
        owner = owner.0;
        executable = executable.0;
        bytes = bytes.0;
      };
    },
    bytes.1,
  )

unfoldable pub entries_at : ℕ → List ℕ → Read (List KeyedAccount)
entries_at total bytes = do
  count ← count_at (λ _. TooManyAccounts) max_accounts total bytes
  many_after (account_after total) [] count.0 count.1

-- the state section
unfoldable pub state_at : ℕ → List ℕ → Read State
state_at total bytes =
    read_as (λ accounts. map.from_entries (entries_of accounts)) (entries_at total) bytes

unfoldable pub snapshot_at : ℕ → List ℕ → Read Snapshot
snapshot_at total bytes = do
  head ← head_at total bytes
  marks ← marks_at total head.1
  state ← state_at total marks.1
  Ok (record { slot = head.0.0; limits = head.0.1; recent = marks.0; accounts = state.0 }, state.1)

-- the snapshot that the bytes begin with, or the first refusal
unfoldable pub prefix_of : List ℕ → Result Prefix SnapshotFault
prefix_of bytes = do
  snapshot ← snapshot_at (length bytes) bytes
  Ok (record { snapshot = snapshot.0; length = place (length bytes) snapshot.1 })
