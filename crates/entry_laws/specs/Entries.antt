-- The entries of a block, and the accounts between them.
use Rattle.std.specs.Prelude.{◌≡◌, ℕ, slice_get, Some}
use Rattle.sol_base.specs.declared.key.Key.{Key}
use Rattle.sol_base.specs.declared.key.Hash32.{Hash32}
use Rattle.message_codec.specs.declared.message.Tx.{Tx}
use Rattle.message_codec.specs.declared.parsed.Parsed.TheVariants.{Good}
use Rattle.message_codec.specs.Parsing.{parsed_of}
use Rattle.account_store.specs.State.{State}
use Rattle.snapshot_codec.specs.declared.batch.Batch.{Batch}
use Rattle.snapshot_codec.specs.declared.snapshot.Snapshot.{Snapshot}
use Rattle.block_record.specs.declared.block.Entry.{Entry}
use Rattle.block_run.specs.Blocks.{block_result}
use Rattle.block_laws.specs.Keeping.{order_of}
use Rattle.block_laws.specs.Laws.{state_after}

-- the entry at a position of the record of a batch, with what its wire spells
pub record IsEntry (s : Snapshot) (batch : Batch) (i : ℕ) (entry : Entry) (tx : Tx) (name : Hash32)
    : Type 0 where
  pub there : slice_get (block_result s batch).block.entries i ≡ Some entry
  pub read : parsed_of entry.wire ≡ Good tx name

-- the accounts once the first entries ran, as many as the number says
abbrev pub state_in : Snapshot → Batch → ℕ → State
state_in s batch n = state_after s batch.slot (order_of s batch) n

-- the first key of a message pays
abbrev pub IsPayer : Tx → Key → Type 0
IsPayer tx key = slice_get tx.message.keys 0 ≡ Some key
