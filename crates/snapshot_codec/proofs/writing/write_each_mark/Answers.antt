use Rattle.std.proofs.Common.{take, ◌++◌, ap, sym, ◌∙◌}
use Rattle.std.specs.List.{flat_map}
use Rattle.std.proofs.lemmas.List.{take_all}
use Rattle.status_cache.specs.declared.recent.Mark.{Mark}
use Rattle.snapshot_codec.specs.Snapshot.{mark_bytes}
use Rattle.format_fields.proofs.Adding.{Adds-none, Adds-then, Adds-as, flat_map-more}
use Rattle.snapshot_codec.proofs.writing.write_each_mark.Goals as goal

pub loop-mark-init : goal.loop-mark-init
loop-mark-init g c = Adds-none g.O.Output.holds c.args.out.now

pub loop-mark-preserved : goal.loop-mark-preserved
loop-mark-preserved g c =
    Adds-as (Adds-then c.loop-mark.invariant c.in_ok-write_mark.ensures)
    (ap (λ (m : Mark). flat_map mark_bytes (take c.loop-mark.mark-index c.args.marks.now) ++ mark_bytes m)
    c.mark-item.is ∙ sym (flat_map-more mark_bytes c.args.marks.now c.loop-mark.mark-index
    c.mark-item.result c.loop-mark-test.true))

pub returns : goal.returns
returns g c = Adds-as c.loop-mark.invariant (ap (flat_map mark_bytes) (take_all c.loop-mark.mark-index c.args.marks.now c.loop-mark-test.false))
