use Rattle.std.proofs.Common.{map, sym, ◌∙◌}
use Rattle.std.proofs.lemmas.Result.{err_from_is_err_and}
use Rattle.serde_json.specs.View.{view}
use Rattle.json_parts.specs.Parts.{items_in}
use Rattle.json_parts.proofs.Items.{joined-none, items-done}
use Rattle.text_short.specs.Members.{lone}
use Rattle.text_short.proofs.LoneItems.{item-more, item-stops}
use Rattle.text_short.proofs.list.items.Goals as goal

pub loop-at-init : goal.loop-at-init
loop-at-init g c = rw c.new-items.ensures (joined-none (items_in (lone (g.R.ReadsItems.item_in c.args.reader.now)) 0 (map view c.args.values.now)))

pub returns-in_err-item : goal.returns-in_err-item
returns-in_err-item g c =
    let p = err_from_is_err_and c.from_residual.result c.from_residual.ensures.1 in
    let one = g.R.ReadsItems.item_in c.args.reader.now in
    rw (p.1, p.2) (item-stops one c.loop-at.items c.args.values.now c.loop-at.at c.index-values-at.result
    c.read.result c.in_item.result c.in_err-item.field-0.0
    (items_in (lone one) 0 (map view c.args.values.now)) c.loop-at-test.true c.index-values-at.is
    c.read.ensures c.in_item.ensures c.in_err-item.was c.loop-at.invariant)

pub loop-at-preserved : goal.loop-at-preserved
loop-at-preserved g c =
    let one = g.R.ReadsItems.item_in c.args.reader.now in
    rw c.in_ok-push.ensures.ok (item-more one c.loop-at.items c.args.values.now c.loop-at.at
    c.index-values-at.result c.read.result c.in_item.result c.in_ok-item.item
    (items_in (lone one) 0 (map view c.args.values.now)) c.loop-at-test.true c.index-values-at.is
    c.read.ensures c.in_item.ensures c.in_ok-item.was c.loop-at.invariant)

pub returns : goal.returns
returns g c = sym c.loop-at.invariant ∙ items-done (lone (g.R.ReadsItems.item_in c.args.reader.now)) c.loop-at.items c.args.values.now c.loop-at.at c.loop-at-test.false
