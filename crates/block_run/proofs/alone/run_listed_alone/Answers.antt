use Rattle.std.proofs.Common.{◌≡◌, ◌≤◌, ◌∙◌, All, List, length, map, sym, ap, subst, arith}
use Rattle.std.proofs.lemmas.List.{length-map}
use Rattle.sol_base.specs.Limits.{max_transactions}
use Rattle.block_record.specs.declared.block.Entry.{Entry}
use Rattle.admission.specs.declared.chosen.Chosen.{Chosen}
use Rattle.admission.specs.Chosen.{IsChosen}
use Rattle.admission.specs.Answers.{told_by}
use Rattle.block_run.specs.Blocks.{before_refused, closed, is_halted, wires_of}
use Rattle.block_end.specs.Ending.{AreOf}
use Rattle.block_run.proofs.Calls.{head_again, listed_are_of, listed_cut, listed_is}
use Rattle.block_run.proofs.Orders.{before_are_chosen, before_are_of}
use Rattle.block_run.proofs.alone.run_listed_alone.Goals as goal

pub run_order_alone-requires-clause-of : goal.run_order_alone-requires-clause-of
run_order_alone-requires-clause-of g c κs within =
    let read : c.in_ok-wires.wires ≡ wires_of c.args.given.now = c.in_ok-wires.ensures ∙ ap (map (λ (entry : Entry). entry.wire)) c.as_slice.ensures in
    let long = ap length read ∙ length-map c.args.given.now.entries (λ (entry : Entry). entry.wire) in
    let few : length c.in_ok-wires.wires ≤ max_transactions = omega (arith, long, c.requires.few) in
    subst (AreOf c.in_ok-wires.wires) (sym c.before_refused-order.ensures)
    (before_are_of c.in_ok-wires.wires _ _ (listed_are_of c.args.snapshot c.in_ok-wires.wires (told_by c.in_ok-order.field-0) c.requires.readable few c.in_ok-order.ensures.exact))

pub run_order_alone-requires-clause-chosen : goal.run_order_alone-requires-clause-chosen
run_order_alone-requires-clause-chosen g c κs within =
    subst (All IsChosen) (sym c.before_refused-order.ensures)
    (before_are_chosen _ _ c.in_ok-order.ensures.chosen)

pub returns-clause-exact : goal.returns-clause-exact
returns-clause-exact g c =
    let read : c.in_ok-wires.wires ≡ wires_of c.args.given.now = c.in_ok-wires.ensures ∙ ap (map (λ (entry : Entry). entry.wire)) c.as_slice.ensures in
    let order = c.before_refused-order.ensures ∙ ap (λ refused. before_refused refused c.in_ok-order.field-0.order) c.as_slice-2.ensures in
    let ended = c.in_ok-block.ensures.exact ∙ ap (λ (o : List Chosen). closed c.args.snapshot (head_again c.args.given.now) c.in_ok-wires.wires o) order in
    listed_is c.args.snapshot c.args.given.now c.in_ok-wires.wires (told_by c.in_ok-order.field-0)
    c.in_ok-block.field-0 c.is_halted.result read c.in_ok-order.ensures.exact ended
    (c.is_halted.ensures ∙ ap is_halted c.as_slice-3.ensures)

pub returns-clause-cut : goal.returns-clause-cut
returns-clause-cut g c =
    let read : c.in_ok-wires.wires ≡ wires_of c.args.given.now = c.in_ok-wires.ensures ∙ ap (map (λ (entry : Entry). entry.wire)) c.as_slice.ensures in
    let order = c.before_refused-order.ensures ∙ ap (λ refused. before_refused refused c.in_ok-order.field-0.order) c.as_slice-2.ensures in
    let ended = c.in_ok-block.ensures.exact ∙ ap (λ (o : List Chosen). closed c.args.snapshot (head_again c.args.given.now) c.in_ok-wires.wires o) order in
    listed_cut c.args.snapshot c.args.given.now c.in_ok-wires.wires (told_by c.in_ok-order.field-0)
    c.in_ok-block.field-0 c.is_halted.result c.requires.readable read c.in_ok-order.ensures.exact ended
    (c.is_halted.ensures ∙ ap is_halted c.as_slice-3.ensures)
