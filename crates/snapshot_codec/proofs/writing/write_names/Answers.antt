use Rattle.std.proofs.Common.{[], ap, sym}
use Rattle.std.specs.List.{flat_map}
use Rattle.std.proofs.lemmas.List.{take_all}
use Rattle.sol_base.specs.Keys.{hash_bytes}
use Rattle.format_fields.proofs.Adding.{Adds-none, Adds-then, Adds-as, flat_map-more}
use Rattle.snapshot_codec.proofs.writing.write_names.Goals as goal

pub loop-name-init : goal.loop-name-init
loop-name-init g c = Adds-none g.O.Output.holds c.args.out.now

pub loop-name-preserved : goal.loop-name-preserved
loop-name-preserved g c = Adds-as (Adds-then c.loop-name.invariant c.in_ok-append.ensures.ok)
    (sym (flat_map-more hash_bytes c.args.names.now c.loop-name.name-index (record { 0 = [] })
    c.loop-name-test.true))

pub returns : goal.returns
returns g c = Adds-as c.loop-name.invariant (ap (flat_map hash_bytes) (take_all c.loop-name.name-index c.args.names.now c.loop-name-test.false))
