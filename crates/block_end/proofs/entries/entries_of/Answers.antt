use Rattle.std.proofs.Common.{◌≡◌, ◌<◌, ◌∷◌, [], ◌++◌, List, length, get_or, ap, ◌∙◌, arith, length-append}
use Rattle.std.specs.Vec.Iter.{into_iter_items}
use Rattle.std.proofs.lemmas.Grind.{common_steps}
use Rattle.tx_report.specs.declared.outcome.Outcome.{Outcome}
use Rattle.block_record.specs.declared.block.Entry.{Entry}
use Rattle.admission.specs.declared.chosen.Chosen.{Chosen}
use Rattle.block_end.specs.Blocks.{entry_of}
use Rattle.block_end.proofs.Beside.{entries_more}
use Rattle.block_end.proofs.entries.entries_of.Goals as goal

pub loop-outcome-preserved : goal.loop-outcome-preserved
loop-outcome-preserved c =
    let i = c.loop-outcome.invariant in
    let outcome : Outcome = c.in-Some.outcome in
    let done : List Outcome = c.loop-outcome.yielded in
    let whole : (done ++ outcome ∷ []) ++ into_iter_items c.next.new.self ≡ c.args.outcomes = grind (arith, common_steps) in
    let long = ap length whole in
    let a = length-append (done ++ outcome ∷ []) (into_iter_items c.next.new.self) in
    let b = length-append done (outcome ∷ []) in
    let below : length done < length c.args.order.now = omega (arith, long, a, b, c.requires.one_each) in
    let place = c.len.ensures ∙ i.count in
    let t : c.index-order-len.result ≡ get_or c.args.order.now (length done) c.index-order-len.result = c.index-order-len.is ∙ ap (λ n. get_or c.args.order.now n c.index-order-len.result) place in
    let pushed = c.in_ok-push.ensures.ok
    ∙ ap (λ (e : Entry). c.loop-outcome.entries ++ e ∷ [])
    (c.in_ok-entry_of.ensures ∙ ap (λ (x : Chosen). entry_of c.args.wires.now (x, outcome))
    (c.chosen-chosen.ensures ∙ t)) in
    let more = ap length c.in_ok-push.ensures.ok ∙ length-append c.loop-outcome.entries (c.in_ok-entry_of.field-0 ∷ []) in
    record {
      so_far = entries_more c.args.wires.now c.args.order.now done outcome c.loop-outcome.entries c.push.new.self c.index-order-len.result i.so_far below pushed;
      count = omega (arith, more, b, i.count);
      whole = whole;
    }
