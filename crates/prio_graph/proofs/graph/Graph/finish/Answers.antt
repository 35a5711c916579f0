use Rattle.std.proofs.Common.{ℕ, ◌≡◌, ◌+◌, ◌<◌, ◌≤◌, ◌*◌, ◌==◌, [], length, set, ◌∙◌, sym, ap, subst, subst₂, arith}
use Rattle.std.specs.Prelude.{◌&&◌, nat_lt, slice_index, if◌then◌else◌}
use Rattle.std.proofs.lemmas.List.{get_or_default, with_items_is}
use Rattle.prio_graph.specs.declared.mark.Mark.TheVariants.{Started, Done}
use Rattle.prio_graph.specs.Ready.{Positions, mark_at}
use Rattle.prio_graph.specs.Trees.{IsTree, leaf}
use Rattle.prio_graph.specs.Kept.{free_count, waiting_free_count, times, IsGraph}
use Rattle.prio_graph.proofs.Moves.{below, row_within, row_enough, finish_keeps}
use Rattle.prio_graph.proofs.Counting.{all_free, finish_counts, free_most}
use Rattle.prio_graph.proofs.graph.Graph.finish.Goals as goal

pub release-freed-requires-clause-within : goal.release-freed-requires-clause-within
release-freed-requires-clause-within c =
    let K = c.self.invariant.0 in
    let started = subst (λ (p : Positions). mark_at p.marks c.args.position ≡ Started) (sym c.self.view_is) c.requires in
    let here = below c.self.inside.sets c.self.inside.marks.items c.self.inside.waits.items c.self.inside.later.items c.self.inside.ready.items K c.args.position started in
    let row = c.as_slice.ensures ∙ (c.index.ensures ∙ get_or_default c.self.inside.later.items c.args.position c.index.result.now [] (omega (arith, K.rows_length, here))) in
    let waits = ap length c.deref_mut.ensures.value in
    λ k d l. let one = row_within c.self.inside.sets c.self.inside.marks.items c.self.inside.waits.items
    c.self.inside.later.items c.self.inside.ready.items K c.args.position started c.as_slice.result.now row
    k d l in omega (arith, one, waits)

pub release-freed-requires-clause-enough : goal.release-freed-requires-clause-enough
release-freed-requires-clause-enough c =
    let K = c.self.invariant.0 in
    let started = subst (λ (p : Positions). mark_at p.marks c.args.position ≡ Started) (sym c.self.view_is) c.requires in
    let here = below c.self.inside.sets c.self.inside.marks.items c.self.inside.waits.items c.self.inside.later.items c.self.inside.ready.items K c.args.position started in
    let row = c.as_slice.ensures ∙ (c.index.ensures ∙ get_or_default c.self.inside.later.items c.args.position c.index.result.now [] (omega (arith, K.rows_length, here))) in
    λ i. subst (λ waits. times i c.as_slice.result.now ≤ slice_index waits i) (sym c.deref_mut.ensures.value)
    (row_enough c.self.inside.sets c.self.inside.marks.items c.self.inside.waits.items c.self.inside.later.items c.self.inside.ready.items K c.args.position started c.as_slice.result.now row i)

pub overflow_add-self : goal.overflow_add-self
overflow_add-self c =
    let K = c.self.invariant.0 in
    let was = c.self.invariant.1 in
    let here = all_free c.self.inside.sets c.self.inside.marks.items c.self.inside.waits.items c.self.inside.later.items c.self.inside.ready.items K in
    let more = subst (λ waits. free_count waits + c.release-freed.result ≡ free_count c.release-freed.new.waits) c.deref_mut.ensures.value c.release-freed.ensures.freed in
    let most = free_most c.release-freed.new.waits in
    let long : length c.release-freed.new.waits ≡ length c.self.inside.waits.items = c.release-freed.auto.waits ∙ ap length c.deref_mut.ensures.value in
    let same = K.waits_length in
    let few = K.few in
    omega (arith, was, here, more, most, long, same, few)

pub invariant_of-self : goal.invariant_of-self
invariant_of-self c =
    let K = c.self.invariant.0 in
    let started = subst (λ (p : Positions). mark_at p.marks c.args.position ≡ Started) (sym c.self.view_is) c.requires in
    let here = below c.self.inside.sets c.self.inside.marks.items c.self.inside.waits.items c.self.inside.later.items c.self.inside.ready.items K c.args.position started in
    let row = c.as_slice.ensures ∙ (c.index.ensures ∙ get_or_default c.self.inside.later.items c.args.position c.index.result.now [] (omega (arith, K.rows_length, here))) in
    let waits_written = with_items_is c.self.inside.waits c.release-freed.new.waits (c.release-freed.auto.waits ∙ c.deref_mut.ensures.len) in
    let tree_written = with_items_is c.self.inside.ready c.release-freed.new.tree (c.release-freed.auto.tree ∙ c.deref_mut-2.ensures.len) in
    let waits_long : length c.release-freed.new.waits ≡ length c.self.inside.waits.items = c.release-freed.auto.waits ∙ ap length c.deref_mut.ensures.value in
    let tree_long : length c.release-freed.new.tree ≡ 2 * length c.self.inside.sets = c.release-freed.auto.tree ∙ (ap length c.deref_mut-2.ensures.value ∙ K.tree_length) in
    let count = ap length c.deref_mut.ensures.value ∙ K.waits_length in
    let lost = subst (λ waits. (i : ℕ) → slice_index c.release-freed.new.waits i + times i c.as_slice.result.now ≡ slice_index waits i) c.deref_mut.ensures.value c.release-freed.ensures.waits in
    let is_tree = subst (IsTree c.release-freed.new.tree) count c.release-freed.ensures.is_tree in
    let leaves = subst₂ (λ tree n. (i : ℕ) → i < n
    → leaf c.release-freed.new.tree n i
    ≡ (if nat_lt 0 (times i c.as_slice.result.now) && (slice_index c.release-freed.new.waits i == 0) then i
    else leaf tree n i)) c.deref_mut-2.ensures.value count c.release-freed.ensures.leaves in
    let keeps = finish_keeps c.self.inside.sets c.self.inside.marks.items c.self.inside.waits.items
    c.self.inside.later.items c.self.inside.ready.items K c.args.position started c.release-freed.new.waits
    waits_long c.as_slice.result.now row lost c.release-freed.new.tree tree_long is_tree leaves in
    let more = subst (λ waits. free_count waits + c.release-freed.result ≡ free_count c.release-freed.new.waits) c.deref_mut.ensures.value c.release-freed.ensures.freed in
    let counts = finish_counts c.self.inside.sets c.self.inside.marks.items c.self.inside.waits.items
    c.self.inside.later.items c.self.inside.ready.items K c.args.position started c.release-freed.new.waits
    c.release-freed.new.tree waits_long keeps c.release-freed.result more in (
      subst₂ (λ waits tree. IsGraph c.self.inside.sets (set c.self.inside.marks.items c.args.position Done) waits c.self.inside.later.items tree) (sym waits_written) (sym tree_written) keeps,
      ap (λ n. n + c.release-freed.result) c.self.invariant.1 ∙ (counts ∙ ap (waiting_free_count (set c.self.inside.marks.items c.args.position Done)) (sym waits_written)),
    )
