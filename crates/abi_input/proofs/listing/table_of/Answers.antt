use Rattle.std.proofs.Common.{refl, arith, ◌∙◌}
use Rattle.std.proofs.lemmas.List.{length-set}
use Rattle.abi_input.proofs.Listed.{fresh_table, table_more}
use Rattle.abi_input.proofs.listing.table_of.Goals as goal

pub loop-place-init : goal.loop-place-init
loop-place-init c = record { long = refl; seen = fresh_table 256 }

pub loop-place-preserved : goal.loop-place-preserved
loop-place-preserved c =
    let long = c.loop-place.invariant.long in
    record {
      long = length-set c.loop-place.table c.from-index.result c.with.result ∙ long;
      seen = table_more c.args.metas.now c.loop-place.table c.loop-place.place c.from-index.result _ _ c.with.result
          c.loop-place-test.true c.from-index.ensures (omega arith) long c.with.ensures c.loop-place.invariant.seen;
    }
