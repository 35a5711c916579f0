use Rattle.block_laws.proofs.Records.{records_are_read}
use Rattle.block_laws.proofs.chain.records_are_read.Goals as goal

pub returns : goal.returns
returns c = record { read = records_are_read }
