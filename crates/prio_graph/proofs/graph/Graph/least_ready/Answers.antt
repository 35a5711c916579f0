use Rattle.std.proofs.Common.{ℕ, ◌≡◌, ◌<◌, ◌≤◌, ◌⊎◌, List, subst, subst₂}
use Rattle.prio_graph.specs.Ready.{Positions, IsReady, IsLeastOfReady}
use Rattle.prio_graph.specs.Trees.{leaf}
use Rattle.prio_graph.proofs.Moves.{least_is, none_is}
use Rattle.prio_graph.proofs.graph.Graph.least_ready.Goals as goal

-- what is said of the tree is said of the slice
abbrev Least : ℕ → List ℕ → ℕ → Type 0
Least v tree count = (i : ℕ) → i < count → v ≤ leaf tree count i

pub returns-then-least-clause-none : goal.returns-then-least-clause-none
returns-then-least-clause-none c =
    let least = subst₂ (Least c.least_leaf-least.result) c.as_slice.ensures.value c.len.ensures c.least_leaf-least.ensures.least in
    subst (λ (p : Positions). (i : ℕ) → IsReady p i → ⊥) c.self.view_is
    (none_is c.self.inside.sets c.self.inside.marks.items c.self.inside.waits.items c.self.inside.later.items
    c.self.inside.ready.items c.self.invariant.0 c.least_leaf-least.result least c.if-least.true)

pub returns-else-least-clause-least : goal.returns-else-least-clause-least
returns-else-least-clause-least c =
    let v = c.least_leaf-least.result in
    let least = subst₂ (Least v) c.as_slice.ensures.value c.len.ensures c.least_leaf-least.ensures.least in
    let shown = subst₂ (λ tree count. (v ≡ 4294967295) ⊎ ((i : ℕ) × (i < count) × (leaf tree count i ≡ v))) c.as_slice.ensures.value c.len.ensures c.least_leaf-least.ensures.shown in
    subst (λ (p : Positions). IsLeastOfReady p v) c.self.view_is
    (least_is c.self.inside.sets c.self.inside.marks.items c.self.inside.waits.items c.self.inside.later.items c.self.inside.ready.items c.self.invariant.0 v least shown c.if-least.false)
