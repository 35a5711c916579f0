-- What is written is read again.
use Rattle.std.specs.Prelude.{◌≡◌, Ok}
use Rattle.block_record.specs.declared.block.Block.{Block}
use Rattle.block_record.specs.Record.{bytes_of_record, IsCounted, HasTexts, HasWidths}
use Rattle.block_record.specs.RecordReading.{record_of}

abbrev pub RoundTrip : Type 0
RoundTrip = (block : Block) → IsCounted block → HasTexts block → HasWidths block
    → record_of (bytes_of_record block) ≡ Ok block
