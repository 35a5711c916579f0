use Rattle.admission.specs.Lookups.{address_at, address_count}
use Rattle.admission.proofs.LookupLaws.{in_table, mapped_more}
use Rattle.admission.proofs.lookups.push_picked.Goals as goal

pub address_at-requires : goal.address_at-requires
address_at-requires c = in_table (address_count c.args.table.now) c.args.indexes.now c.loop-index.index-index c.loop-index-test.true c.requires

pub loop-index-preserved : goal.loop-index-preserved
loop-index-preserved c =
    mapped_more (address_at c.args.table.now) c.args.indexes.now c.loop-index.index-index c.args.keys.now c.loop-index.keys c.push.new.self c.address_at.result
    c.loop-index-test.true c.address_at.ensures c.loop-index.invariant c.in_ok-push.ensures.ok
