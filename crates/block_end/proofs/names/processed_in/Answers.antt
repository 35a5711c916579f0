use Rattle.std.proofs.Common.{◌≡◌, ◌<◌, ◌++◌, List, get_or, take, length, Option, sym, ap, ◌∙◌, arith}
use Rattle.std.specs.Prelude.{option_to_list}
use Rattle.std.proofs.lemmas.List.{append-nil}
use Rattle.sol_base.specs.declared.key.Hash32.{Hash32}
use Rattle.tx_report.specs.declared.outcome.Outcome.{Outcome}
use Rattle.admission.specs.declared.chosen.Chosen.{Chosen}
use Rattle.block_end.specs.Blocks.{processed_by, processed_in}
use Rattle.block_end.proofs.Sorting.{processed_more}
use Rattle.block_end.proofs.names.processed_in.Goals as goal
use Rattle.block_end.proofs.names.processed_in.Goals.{in-Some+in_ok-push, in_default}

pub loop-at-preserved : goal.loop-at-preserved
loop-at-preserved c =
    let order = c.args.order.now in
    let outcomes = c.args.outcomes.now in
    let at = c.loop-at.at in
    let here : at < length order = c.loop-at-test.true in
    let there : at < length outcomes = omega (arith, here, c.requires) in
    let joined : c.match-processed_by.names.items ≡ c.loop-at.names.items ++ option_to_list c.processed_by.result =
    elim c.match-processed_by.branch [
      | in-Some+in_ok-push w ↦ ap (λ v. v.items) w.names-is ∙ w.in_ok-push.ensures.items ∙ ap (λ (o : Option Hash32). c.loop-at.names.items ++ option_to_list o) (sym w.in-Some.is)
      | in_default w ↦ ap (λ v. v.items) w.names-is ∙ sym (append-nil c.loop-at.names.items) ∙ ap (λ (o : Option Hash32). c.loop-at.names.items ++ option_to_list o) (sym w.in_default.is)
    ] in
    joined
    ∙ ap (λ (l : List Hash32). l ++ option_to_list c.processed_by.result) c.loop-at.invariant
    ∙ ap (λ (o : Option Hash32). processed_in (take at order) (take at outcomes) ++ option_to_list o)
    (c.processed_by.ensures ∙ ap (λ (t : Chosen). processed_by t.name c.value.result.now.status)
    c.chosen.ensures ∙ ap (λ (o : Outcome). processed_by c.index-order-at.result.name o.status)
    (c.value.ensures ∙ c.index-outcomes-at.is)
    ∙ ap (λ (t : Chosen). processed_by t.name (get_or outcomes at c.index-outcomes-at.result).status)
    c.index-order-at.is)
    ∙ sym (processed_more order outcomes at c.index-order-at.result c.index-outcomes-at.result here there)
