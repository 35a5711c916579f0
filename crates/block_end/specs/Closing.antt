-- The two parts of a block's end: its accounts, and its entries.
use Rattle.std.specs.Prelude.{◌≡◌, List}
use Rattle.sha2.specs.Hashers.{Holds256}
use Rattle.sol_base.specs.declared.key.Key.{Key}
use Rattle.fee_rules.specs.declared.split.FeeSplit.{FeeSplit}
use Rattle.tx_report.specs.declared.outcome.Outcome.{Outcome}
use Rattle.account_store.specs.State.{State}
use Rattle.snapshot_codec.specs.Snapshot.{hash_of_state}
use Rattle.block_record.specs.Record.{IsCounted, front_bytes}
use Rattle.block_end.specs.declared.block.RecordParts.{RecordParts}
use Rattle.block_end.specs.declared.closing.EndState.{EndState}
use Rattle.block_end.specs.declared.closing.Ends.{Ends}
use Rattle.block_end.specs.declared.closing.Unsealed.{Unsealed}
use Rattle.fee_rules.specs.Fees.{split_of}
use Rattle.block_end.specs.BlockEnd.{Shares, base_fees, priority_fees, shares_at_end}
use Rattle.block_end.specs.Blocks.{ascending, processed_in, unsealed}
use Rattle.block_end.specs.RecordPrefix.{IsWritten}
use Rattle.block_end.specs.Ending.{Ran}

-- how the fees were shared, as the end of a block has it
abbrev pub shares_of : EndState → Shares
shares_of end =
    record { accounts = end.accounts; burned = end.burned; collected = end.collected }

-- the end of these accounts with their hash, where there are so many fees to share
pub record IsEndOf (accounts : State) (collector : Key) (split : FeeSplit)
    (end : EndState) : Type 0 where
  pub shares : shares_of end ≡ shares_at_end accounts collector split
  pub state : end.state ≡ hash_of_state end.accounts

-- a block with the entries of these outcomes, and its hash as far as they stand in it
pub record IsUnsealed (parts : RecordParts) (outcomes : List Outcome) (end : Unsealed)
    : Type 0 where
  pub block : end.block
      ≡ unsealed parts.head.now parts.previous parts.wires.now parts.order.now outcomes
  pub counted : IsCounted end.block
  pub hasher : Holds256 end.hasher (front_bytes end.block)

-- the end of a run, but for the block hash
pub record AreEnds (parts : RecordParts) (ran : Ran) (ends : Ends) : Type 0 where
  pub end : IsEndOf ran.accounts parts.head.now.collector
      (split_of (base_fees ran.outcomes) (priority_fees ran.outcomes))
      ends.end
  pub names : ends.names ≡ ascending (processed_in parts.order.now ran.outcomes)
  pub front : IsWritten parts ran.outcomes ends.front
