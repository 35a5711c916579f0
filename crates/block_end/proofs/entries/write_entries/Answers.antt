use Rattle.std.proofs.Common.{◌≡◌, ◌<◌, ◌++◌, ℕ, List, length, take, get_or, sym, ap, ◌∙◌, append_assoc, arith}
use Rattle.std.specs.List.{flat_map}
use Rattle.std.proofs.lemmas.List.{append-nil, take_all}
use Rattle.tx_report.specs.declared.outcome.Outcome.{Outcome}
use Rattle.admission.specs.declared.chosen.Chosen.{Chosen}
use Rattle.block_record.specs.Record.{entry_bytes}
use Rattle.block_end.specs.Blocks.{entries_of, entry_of}
use Rattle.block_end.proofs.Beside.{bytes_more}
use Rattle.block_end.proofs.entries.write_entries.Goals as goal

pub loop-at-init : goal.loop-at-init
loop-at-init c = sym (append-nil c.args.out.now)

pub loop-at-preserved : goal.loop-at-preserved
loop-at-preserved c =
    let wires = c.args.wires.now in
    let order = c.args.order.now in
    let outcomes = c.args.outcomes.now in
    let at = c.loop-at.at in
    let here : at < length order = c.loop-at-test.true in
    let there : at < length outcomes = omega (arith, here, c.requires.one_each) in
    let done : List ℕ = flat_map entry_bytes (entries_of wires (take at order) (take at outcomes)) in
    let chosen : c.index-order-at.result ≡ get_or order at c.index-order-at.result = c.index-order-at.is in
    let outcome : c.index-outcomes-at.result ≡ get_or outcomes at c.index-outcomes-at.result = c.index-outcomes-at.is in
    let one : List ℕ = entry_bytes (entry_of wires (get_or order at c.index-order-at.result, get_or outcomes at c.index-outcomes-at.result)) in
    c.in_ok-write_entry.ensures
    ∙ ap (λ (bs : List ℕ). bs ++ entry_bytes (entry_of wires (c.chosen.result.now, c.value.result.now))) c.loop-at.invariant
    ∙ ap (λ (t : Chosen). (c.args.out.now ++ done) ++ entry_bytes (entry_of wires (t, c.value.result.now))) c.chosen.ensures
    ∙ ap (λ (o : Outcome). (c.args.out.now ++ done) ++ entry_bytes (entry_of wires (c.index-order-at.result, o))) c.value.ensures
    ∙ ap (λ (t : Chosen). (c.args.out.now ++ done) ++ entry_bytes (entry_of wires (t, c.index-outcomes-at.result))) chosen
    ∙ ap (λ (o : Outcome). (c.args.out.now ++ done) ++ entry_bytes (entry_of wires (get_or order at c.index-order-at.result, o))) outcome
    ∙ append_assoc c.args.out.now done one
    ∙ ap (λ (bs : List ℕ). c.args.out.now ++ bs) (sym (bytes_more wires order outcomes at c.index-order-at.result c.index-outcomes-at.result here there))

pub returns : goal.returns
returns c =
    let at = c.loop-at.at in
    let all_order : take at c.args.order.now ≡ c.args.order.now = take_all at c.args.order.now c.loop-at-test.false in
    let all_outcomes : take at c.args.outcomes.now ≡ c.args.outcomes.now = take_all at c.args.outcomes.now (let e = c.requires.one_each in let over = c.loop-at-test.false in omega (arith, e, over)) in
    c.loop-at.invariant
    ∙ ap (λ (order : List Chosen). c.args.out.now ++ flat_map entry_bytes (entries_of c.args.wires.now order (take at c.args.outcomes.now))) all_order
    ∙ ap (λ (outcomes : List Outcome). c.args.out.now ++ flat_map entry_bytes (entries_of c.args.wires.now c.args.order.now outcomes)) all_outcomes
