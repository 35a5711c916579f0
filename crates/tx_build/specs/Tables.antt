-- Which keys a version 0 message loads from lookup tables (Solana): those that neither sign nor are
-- programs, each from the first table that holds it.
use Rattle.std.specs.Prelude.{ℕ, ◌&&◌, ◌==◌, not, Bool, List, [], ◌∷◌, ◌++◌, length, map, take, filter, position, Option, option_to_list}
use Rattle.std.specs.List.{flat_map, list_any}
use Rattle.sol_base.specs.declared.key.Key.{Key}
use Rattle.sol_base.specs.Keys.{same_key}
use Rattle.message_codec.specs.declared.message.Lookup.{Lookup}
use Rattle.tx_build.specs.declared.draft.LookupTable.{LookupTable}
use Rattle.tx_build.specs.declared.mentions.Mention.{Mention}
use Rattle.tx_build.specs.declared.tables.TheConstants.{MAX_ADDRESSES}
use Rattle.tx_build.specs.declared.tables.Share.{Share}

-- the addresses that an index can name: it is one byte
abbrev pub addressable : LookupTable → List Key
addressable table = take MAX_ADDRESSES table.addresses

-- the first place of the key in the table
unfoldable pub place_in : LookupTable → Key → Option ℕ
place_in table key = position (λ address. same_key address key) (addressable table)

abbrev pub holds : LookupTable → Mention → Bool
holds table mention = list_any (λ address. same_key address mention.key) (addressable table)

-- a key is loaded where it neither signs nor is a program, and some table holds it
abbrev pub is_loaded : List LookupTable → Mention → Bool
is_loaded tables mention =
    not mention.signer && not mention.program && list_any (λ table. holds table mention) tables

-- the message's own keys, and the others
abbrev pub own_mentions : List LookupTable → List Mention → List Mention
own_mentions tables mentions = filter (λ mention. not (is_loaded tables mention)) mentions

abbrev pub loaded_mentions : List LookupTable → List Mention → List Mention
loaded_mentions tables mentions = filter (is_loaded tables) mentions

-- those that the table holds, to be written or only read
abbrev pub written_in : LookupTable → List Mention → List Mention
written_in table mentions = filter (λ mention. holds table mention && mention.writable) mentions

abbrev pub read_in : LookupTable → List Mention → List Mention
read_in table mentions = filter (λ mention. holds table mention && not mention.writable) mentions

abbrev pub places_in : LookupTable → List Mention → List ℕ
places_in table mentions =
    flat_map (λ mention. option_to_list (place_in table mention.key)) mentions

abbrev pub keys_in : List Mention → List Key
keys_in mentions = map (λ mention. mention.key) mentions

-- what a message loads from one table, told the keys that are still to be loaded
abbrev pub share_of : LookupTable → List Mention → Share
share_of table mentions = record {
  lookup = record {
    table = table.key;
    writable = places_in table (written_in table mentions);
    readonly = places_in table (read_in table mentions);
  };
  writable = keys_in (written_in table mentions);
  readonly = keys_in (read_in table mentions);
}

-- what it loads from each table, each key from the first that holds it
abbrev pub shares_of : List LookupTable → List Mention → List Share
shares_of [] mentions = []
shares_of (table ∷ tables) mentions =
    share_of table mentions
    ∷ shares_of tables (filter (λ mention. not (holds table mention)) mentions)

-- a table from which nothing is loaded has no lookup
abbrev pub is_used : Share → Bool
is_used share = not (length share.writable == 0 && length share.readonly == 0)

abbrev pub lookups_of : List Share → List Lookup
lookups_of shares = map (λ share. share.lookup) (filter is_used shares)

-- the loaded keys, those to write first
abbrev pub loaded_keys : List Share → List Key
loaded_keys shares =
    flat_map (λ share. share.writable) shares ++ flat_map (λ share. share.readonly) shares
