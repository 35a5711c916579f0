-- What the lookups of a message load from their tables (Solana; that a table's owner, authority and
-- deactivation are not looked at, and that it counts as it was before the block, is the project's
-- own).
use Rattle.std.specs.Prelude.{ℕ, ◌+◌, ◌-◌, ◌*◌, ◌/◌, ◌%◌, ◌==◌, Bool, true, false, not, ◌&&◌, ◌||◌, nat_le, List, [], length, take, drop, map, Option, Some, None, Result, Ok, Err, if◌then◌else◌}
use Rattle.std.specs.List.{list_any, filter_map, flat_map, enumerate_from}
use Rattle.spec_base.specs.Reading.{first_or}
use Rattle.sol_base.specs.declared.account.Account.{Account}
use Rattle.sol_base.specs.declared.key.Key.{Key}
use Rattle.message_codec.specs.declared.message.Loaded.{Loaded}
use Rattle.message_codec.specs.declared.message.Lookup.{Lookup}
use Rattle.message_codec.specs.declared.message.Message.{Message}
use Rattle.message_codec.specs.Roles.{all_keys, has_repeated_key}
use Rattle.account_store.specs.State.{State, at, get}
use Rattle.admission.specs.declared.lookups.LookupFault.{LookupFault}
use Rattle.admission.specs.declared.lookups.LookupFault.TheVariants.{NoTable, BadTable, BadIndex, RepeatedKey, OutOfMemory}

-- out of memory, which no input shows
abbrev pub is_lookup_memory : LookupFault → Bool
is_lookup_memory (NoTable _) = false
is_lookup_memory (BadTable _) = false
is_lookup_memory (BadIndex _) = false
is_lookup_memory RepeatedKey = false
is_lookup_memory OutOfMemory = true

-- the data of a table are 56 bytes and then whole addresses
abbrev pub is_table : List ℕ → Bool
is_table bytes = nat_le 56 (length bytes) && (length bytes - 56) % 32 == 0

-- how many
abbrev pub address_count : List ℕ → ℕ
address_count bytes = (length bytes - 56) / 32

-- the 32 bytes of one of them
abbrev pub address_at : List ℕ → ℕ → Key
address_at bytes index = record { 0 = take 32 (drop (56 + 32 * index) bytes) }

-- an index is that of no address
abbrev pub is_beyond : List ℕ → List ℕ → Bool
is_beyond bytes indexes = list_any (nat_le (address_count bytes)) indexes

-- what is wrong with a lookup, told the account that holds its table
abbrev pub table_fault : ℕ → Lookup → Option Account → Option LookupFault
table_fault place lookup None = Some (NoTable place)
table_fault place lookup (Some table) =
    if not (is_table table.bytes) then Some (BadTable place) else
    if is_beyond table.bytes lookup.writable || is_beyond table.bytes lookup.readonly
    then Some (BadIndex place) else
    None

-- what is wrong with the lookup at a place
abbrev pub lookup_fault : State → ℕ × Lookup → Option LookupFault
lookup_fault s (place, lookup) = table_fault place lookup (get s lookup.table)

-- all that is wrong, lookup by lookup
abbrev pub lookup_faults : State → List Lookup → List LookupFault
lookup_faults s lookups = filter_map (lookup_fault s) (enumerate_from 0 lookups)

-- the addresses that indexes pick from the table of a lookup
abbrev pub picked : State → Key → List ℕ → List Key
picked s table indexes = map (address_at (at s table).bytes) indexes

-- those that lookups load to be written, and to be read
abbrev pub loaded_to_write : State → List Lookup → List Key
loaded_to_write s lookups = flat_map (λ lookup. picked s lookup.table lookup.writable) lookups

abbrev pub loaded_to_read : State → List Lookup → List Key
loaded_to_read s lookups = flat_map (λ lookup. picked s lookup.table lookup.readonly) lookups

abbrev pub loaded_in : State → List Lookup → Loaded
loaded_in s lookups =
    record { writable = loaded_to_write s lookups; readonly = loaded_to_read s lookups }

-- no key
abbrev pub loads_none : Loaded
loads_none = record { writable = []; readonly = [] }

-- what is loaded, where no key of the message stands twice
abbrev pub if_apart : Message → Loaded → Result Loaded LookupFault
if_apart message loaded =
    if has_repeated_key (all_keys message loaded) then Err RepeatedKey else Ok loaded

-- what a message loads in a state, or the first refusal
unfoldable pub load : State → Message → Result Loaded LookupFault
load s message =
    first_or (lookup_faults s message.lookups) (if_apart message (loaded_in s message.lookups))
