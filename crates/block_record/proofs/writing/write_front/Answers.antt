use Rattle.std.proofs.Common.{List, length, ap, ◌++◌, ◌∙◌}
use Rattle.std.specs.List.{flat_map}
use Rattle.std.proofs.lemmas.Result.{on_ok_weaker}
use Rattle.format_fields.proofs.Adding.{Adds-then, Adds-as}
use Rattle.block_record.specs.declared.block.Entry.{Entry}
use Rattle.block_record.specs.Record.{entry_bytes, heading_bytes}
use Rattle.block_record.proofs.RecordLaws.{front_is}
use Rattle.block_record.proofs.writing.write_front.Goals as goal

pub returns : goal.returns
returns g c =
    let b = c.args.block.now in
    on_ok_weaker c.write_each_entry.result
    (λ last. Adds-as (Adds-then c.in_ok-write_heading.ensures last)
    (ap (λ (es : List Entry). heading_bytes b.slot b.collector b.previous (length es) ++ flat_map entry_bytes es) c.as_slice-entries.ensures ∙ front_is b))
    c.write_each_entry.ensures
