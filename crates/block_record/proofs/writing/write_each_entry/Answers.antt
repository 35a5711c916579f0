use Rattle.std.proofs.Common.{take, ◌++◌, ap, sym, ◌∙◌}
use Rattle.std.specs.List.{flat_map}
use Rattle.std.proofs.lemmas.List.{take_all}
use Rattle.block_record.specs.declared.block.Entry.{Entry}
use Rattle.block_record.specs.Record.{entry_bytes}
use Rattle.format_fields.proofs.Adding.{Adds-none, Adds-then, Adds-as, flat_map-more}
use Rattle.block_record.proofs.writing.write_each_entry.Goals as goal

pub loop-entry-init : goal.loop-entry-init
loop-entry-init g c = Adds-none g.O.Output.holds c.args.out.now

pub loop-entry-preserved : goal.loop-entry-preserved
loop-entry-preserved g c =
    Adds-as (Adds-then c.loop-entry.invariant c.in_ok-write_entry.ensures)
    (ap (λ (x : Entry). flat_map entry_bytes (take c.loop-entry.entry-index c.args.entries.now)
    ++ entry_bytes x) c.entry-item.is
    ∙ sym (flat_map-more entry_bytes c.args.entries.now c.loop-entry.entry-index c.entry-item.result
    c.loop-entry-test.true))

pub returns : goal.returns
returns g c = Adds-as c.loop-entry.invariant (ap (flat_map entry_bytes) (take_all c.loop-entry.entry-index c.args.entries.now c.loop-entry-test.false))
