use Rattle.bank_core.specs.Ends.{outcomes_at_end}
use Rattle.bank_shared.specs.Face.{desk_origin, IsReaderOf}
use Rattle.block_end.specs.RecordPrefix.{IsBegun}
use Rattle.block_lanes.proofs.reading.read_prefix.Given as goal

-- the reader stays with its desk, and the hash has the entries so far
abbrev pub invariant-loop : goal.invariant-loop
invariant-loop g l = record {
  again : (goal.iterator-loop g).can_next l.iterator' × (goal.iterator-loop g).is_finite l.iterator';
  reader : IsReaderOf l.desk l.reader;
  begun : IsBegun l.parts (outcomes_at_end g.W.Work.job (desk_origin l.desk)) l.begun;
}
