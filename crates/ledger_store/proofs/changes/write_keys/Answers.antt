use Rattle.std.proofs.Common.{[], ap, sym}
use Rattle.std.specs.List.{flat_map}
use Rattle.std.proofs.lemmas.List.{take_all}
use Rattle.sol_base.specs.Keys.{key_bytes}
use Rattle.format_fields.proofs.Adding.{Adds-none, Adds-then, Adds-as, flat_map-more}
use Rattle.ledger_store.proofs.changes.write_keys.Goals as goal

pub loop-key-init : goal.loop-key-init
loop-key-init g c = Adds-none g.O.Output.holds c.args.out.now

pub loop-key-preserved : goal.loop-key-preserved
loop-key-preserved g c = Adds-as (Adds-then c.loop-key.invariant c.in_ok-append.ensures.ok)
    (sym (flat_map-more key_bytes c.args.keys.now c.loop-key.key-index (record { 0 = [] })
    c.loop-key-test.true))

pub returns : goal.returns
returns g c = Adds-as c.loop-key.invariant (ap (flat_map key_bytes) (take_all c.loop-key.key-index c.args.keys.now c.loop-key-test.false))
