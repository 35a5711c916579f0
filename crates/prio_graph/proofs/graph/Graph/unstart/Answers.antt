use Rattle.std.proofs.Common.{ℕ, ◌≡◌, ◌<◌, ◌*◌, ◌==◌, length, set, ◌∙◌, sym, ap, subst, subst₂, arith}
use Rattle.std.specs.Prelude.{if◌then◌else◌}
use Rattle.std.proofs.lemmas.List.{with_items_is}
use Rattle.prio_graph.specs.Ready.{Positions, mark_at}
use Rattle.prio_graph.specs.declared.mark.Mark.TheVariants.{Waiting, Started}
use Rattle.prio_graph.specs.Trees.{IsTree, leaf}
use Rattle.prio_graph.specs.Kept.{IsGraph}
use Rattle.prio_graph.proofs.Moves.{unstart_keeps}
use Rattle.prio_graph.proofs.Counting.{unstart_counts, waiting_free_most}
use Rattle.prio_graph.proofs.graph.Graph.unstart.Goals as goal

pub overflow_add-self : goal.overflow_add-self
overflow_add-self c =
    let K = c.self.invariant.0 in
    let was = c.self.invariant.1 in
    let started = subst (λ (p : Positions). mark_at p.marks c.args.position ≡ Started) (sym c.self.view_is) c.requires in
    let counts = unstart_counts c.self.inside.sets c.self.inside.marks.items c.self.inside.waits.items c.self.inside.later.items c.self.inside.ready.items K c.args.position started in
    let most = waiting_free_most (set c.self.inside.marks.items c.args.position Waiting) c.self.inside.waits.items in
    let long = K.waits_length in
    let few = K.few in
    omega (arith, counts, was, most, long, few)

pub invariant_of-self : goal.invariant_of-self
invariant_of-self c =
    let K = c.self.invariant.0 in
    let written = with_items_is c.self.inside.ready c.write_leaf.new.tree (c.write_leaf.auto.tree ∙ c.deref_mut.ensures.len) in
    let long : length c.write_leaf.new.tree ≡ 2 * length c.self.inside.sets = c.write_leaf.auto.tree ∙ (ap length c.deref_mut.ensures.value ∙ K.tree_length) in
    let is_tree = subst (IsTree c.write_leaf.new.tree) c.len.ensures c.write_leaf.ensures.is_tree in
    let leaves = subst₂ (λ tree count. (i : ℕ) → i < count
    → leaf c.write_leaf.new.tree count i
    ≡ (if i == c.args.position then c.args.position else leaf tree count i)) c.deref_mut.ensures.value
    c.len.ensures c.write_leaf.ensures.leaves in
    let ready = subst (λ (p : Positions). mark_at p.marks c.args.position ≡ Started) (sym c.self.view_is) c.requires in (
      subst (IsGraph c.self.inside.sets _ c.self.inside.waits.items c.self.inside.later.items) (sym written)
          (unstart_keeps c.self.inside.sets c.self.inside.marks.items c.self.inside.waits.items
          c.self.inside.later.items c.self.inside.ready.items K c.args.position ready c.write_leaf.new.tree
          long is_tree leaves),
      let counts = unstart_counts c.self.inside.sets c.self.inside.marks.items c.self.inside.waits.items c.self.inside.later.items c.self.inside.ready.items K c.args.position ready in
          let was = c.self.invariant.1 in
          omega (arith, counts, was),
    )
