-- A batch that is read behind a snapshot, and its transactions.
use Rattle.std.specs.Prelude.{ℕ, List, Result, IfOk, drop}
use Rattle.spec_base.specs.Reading.{Gives}
use Rattle.admission.specs.Admission.{AreParsed}
use Rattle.snapshot_codec.specs.Batch.{IsBatch}
use Rattle.snapshot_codec.specs.BatchReading.{batch_of, is_batch_memory}
use Rattle.snapshot_codec.specs.declared.fault.BatchFault.{BatchFault}
use Rattle.block_run.specs.declared.block.Decoded.{Decoded}
use Rattle.bank_cli.specs.declared.ahead.Ahead.{Ahead}

-- what is read of the bytes is their batch, with its transactions, or why they are none
pub record Decodes (before : ℕ) (bytes : List ℕ) (read : Result Decoded BatchFault) : Type 0 where
  pub exact : Gives is_batch_memory (λ (decoded : Decoded). decoded.batch) read (batch_of before bytes)
  pub spelled : IfOk read (λ decoded. IsBatch before bytes decoded.batch)
  pub parsed : IfOk read (λ decoded. AreParsed decoded.batch.wires decoded.parsed)

-- it was read of the bytes from its place on
abbrev pub IsReadIn : List ℕ → Ahead → Type 0
IsReadIn bytes ahead = Decodes ahead.slot (drop ahead.place bytes) ahead.read
