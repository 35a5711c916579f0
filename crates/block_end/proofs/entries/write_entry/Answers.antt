use Rattle.std.proofs.Common.{◌≤◌, ◌+◌, ◌++◌, [], ℕ, List, length, refl, sym, ap, subst, ◌∙◌}
use Rattle.std.proofs.lemmas.List.{get_or_read}
use Rattle.std.proofs.lemmas.Result.{on_ok_weaker}
use Rattle.message_codec.specs.Wire.{max_wire_len}
use Rattle.block_record.specs.declared.block.Entry.{Entry}
use Rattle.block_record.specs.Record.{entry_bytes}
use Rattle.block_end.proofs.Closings.{lines_countable}
use Rattle.block_end.proofs.entries.write_entry.Goals as goal

pub write_parts-requires-clause-wire : goal.write_parts-requires-clause-wire
write_parts-requires-clause-wire c =
    let here = get_or_read c.args.wires.now c.args.chosen.now.position c.index-wires-chosen.result c.requires.of.below c.index-wires-chosen.is [] in
    subst (λ (wire : List ℕ). length wire ≤ max_wire_len) (sym here) c.requires.of.short

pub write_parts-requires-clause-lines : goal.write_parts-requires-clause-lines
write_parts-requires-clause-lines c = lines_countable c.args.outcome.now c.requires.small

pub returns : goal.returns
returns c =
    let outcome = c.args.outcome.now in
    let here = get_or_read c.args.wires.now c.args.chosen.now.position c.index-wires-chosen.result c.requires.of.below c.index-wires-chosen.is [] in
    on_ok_weaker c.write_parts.result
    (λ adds. adds.after c.args.out.now refl
    ∙ ap (λ (wire : List ℕ). let entry : Entry =
    record {
      wire = wire;
      status = outcome.status;
      units = outcome.units;
      fee = outcome.base_paid +
          outcome.priority_paid;
      lines = outcome.lines;
    } in c.args.out.now ++ entry_bytes entry) here)
    c.write_parts.ensures
