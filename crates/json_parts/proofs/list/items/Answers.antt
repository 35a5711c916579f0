use Rattle.std.proofs.Common.{map, sym, ◌∙◌}
use Rattle.std.proofs.lemmas.Result.{err_from_is_err_and}
use Rattle.serde_json.specs.View.{view}
use Rattle.json_parts.specs.Parts.{items_in}
use Rattle.json_parts.proofs.Items.{joined-none, item-more, item-stops, items-done}
use Rattle.json_parts.proofs.list.items.Goals as goal

pub loop-at-init : goal.loop-at-init
loop-at-init g c = rw c.new-out.ensures (joined-none (items_in g.P.Part.part_in 0 (map view c.args.values.now)))

pub returns-in_err-bytes : goal.returns-in_err-bytes
returns-in_err-bytes g c =
    let p = err_from_is_err_and c.from_residual.result c.from_residual.ensures.1 in
    rw (p.1, p.2) (item-stops g.P.Part.part_in c.loop-at.out c.args.values.now c.loop-at.at
    c.index-values-at.result c.read.result c.in_item.result c.in_err-bytes.field-0.0
    (items_in g.P.Part.part_in 0 (map view c.args.values.now)) c.loop-at-test.true c.index-values-at.is
    c.read.ensures c.in_item.ensures c.in_err-bytes.was c.loop-at.invariant)

pub loop-at-preserved : goal.loop-at-preserved
loop-at-preserved g c =
    rw (c.in_ok-append.ensures.ok, c.as_slice.ensures)
    (item-more g.P.Part.part_in c.loop-at.out c.args.values.now c.loop-at.at c.index-values-at.result
    c.read.result c.in_item.result c.in_ok-bytes.bytes
    (items_in g.P.Part.part_in 0 (map view c.args.values.now)) c.loop-at-test.true c.index-values-at.is
    c.read.ensures c.in_item.ensures c.in_ok-bytes.was c.loop-at.invariant)

pub returns : goal.returns
returns g c = sym c.loop-at.invariant ∙ items-done g.P.Part.part_in c.loop-at.out c.args.values.now c.loop-at.at c.loop-at-test.false
