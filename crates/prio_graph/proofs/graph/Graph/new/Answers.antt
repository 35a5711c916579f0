use Rattle.std.proofs.Common.{◌≡◌, length, replicate, ◌∙◌, ap, subst, arith}
use Rattle.std.proofs.lemmas.List.{get_or-replicate}
use Rattle.prio_graph.specs.declared.mark.Mark.TheVariants.{Waiting, Done}
use Rattle.prio_graph.specs.Ready.{mark_at}
use Rattle.prio_graph.specs.Kept.{free_count}
use Rattle.prio_graph.proofs.Counting.{opening_counts}
use Rattle.prio_graph.proofs.Openings.{Edged, Shows, opening_keeps}
use Rattle.prio_graph.proofs.graph.Graph.new.Goals as goal

pub invariant_of-result : goal.invariant_of-result
invariant_of-result c =
    let made = c.in_ok-edges.ensures in
    let edged : Edged c.as_slice.result.now c.in_ok-edges.edges.waits.items c.in_ok-edges.edges.later.items =
    record { waits_length = made.waits_length; rows_length = made.later_length; counted = made.waits; later = made.later; never = made.never } in
    let tree = c.in_ok-ready.ensures in
    let shows : Shows c.as_slice-2.result.now c.in_ok-ready.ready.items = record { tree_length = tree.length; is_tree = tree.is_tree; leaves = tree.leaves } in
    let marks : c.in_ok-marks.marks.items ≡ replicate (length c.args.sets) Waiting = c.in_ok-marks.ensures.items_if_clones_equal (λ y e. e) ∙ ap (λ n. replicate n Waiting) c.len.ensures in
    let keeps =
    opening_keeps c.args.sets c.in_ok-marks.marks.items c.in_ok-edges.edges.waits.items c.in_ok-edges.edges.later.items c.in_ok-ready.ready.items c.requires marks
    (subst (λ sets. Edged sets c.in_ok-edges.edges.waits.items c.in_ok-edges.edges.later.items) c.as_slice.ensures edged)
    (subst (λ waits. Shows waits c.in_ok-ready.ready.items) c.as_slice-2.ensures.value shows) in
    let long = keeps.waits_length in
    let counts = opening_counts c.in_ok-marks.marks.items c.in_ok-edges.edges.waits.items
    (λ i l. ap (λ ms. mark_at ms i) marks
    ∙ get_or-replicate (length c.args.sets) i Waiting Done (omega (arith, l, long))) in
    (keeps, c.count_free-ready_count.ensures ∙ (ap free_count c.as_slice-3.ensures.value ∙ counts))
