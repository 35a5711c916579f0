use Rattle.std.proofs.lemmas.Result.{on_ok_weaker}
use Rattle.format_fields.proofs.Adding.{Adds-then, Adds-as}
use Rattle.block_record.proofs.RecordLaws.{block_ends}
use Rattle.block_record.proofs.writing.write_block.Goals as goal

pub returns : goal.returns
returns g c = on_ok_weaker c.write_end.result (λ last. Adds-as (Adds-then c.in_ok-write_front.ensures last) (block_ends c.args.block.now)) c.write_end.ensures
