use Rattle.std.proofs.Common.{ℕ, ◌≡◌, ◌<◌, ◌+◌, [], None, length, get_or, set, ◌∙◌, sym, ap, subst, arith, All}
use Rattle.std.specs.List.{flat_map}
use Rattle.std.proofs.lemmas.List.{get_or_default}
use Rattle.lock_table.specs.declared.locks.NumberedLock.{NumberedLock}
use Rattle.prio_graph.specs.Chains.{once}
use Rattle.prio_graph.specs.Chained.{Chained}
use Rattle.lock_chains.specs.Passing.{awaited_by, writer_after, readers_after}
use Rattle.prio_graph.proofs.Chaining.{awaited-is, awaited-below, Chained-next}
use Rattle.prio_graph.proofs.edges.add_position.Goals as goal

pub awaited-requires-clause-last : goal.awaited-requires-clause-last
awaited-requires-clause-last c =
    let here = c.items-locks.ensures.items ∙ (c.index-sets-position.is ∙ get_or_default c.args.sets.now c.args.position c.index-sets-position.result [] c.requires.below) in
    subst (All (λ (lock : NumberedLock). lock.number < length c.args.last.now)) (sym here) (c.requires.chained.numbers c.args.position)

pub awaited-requires-clause-readers : goal.awaited-requires-clause-readers
awaited-requires-clause-readers c =
    let here = c.items-locks.ensures.items ∙ (c.index-sets-position.is ∙ get_or_default c.args.sets.now c.args.position c.index-sets-position.result [] c.requires.below) in
    subst (All (λ (lock : NumberedLock). lock.number < length c.args.readers.now)) (sym here)
    (λ k d l. let u = c.requires.chained.numbers c.args.position k d l
    in omega (arith, u, c.requires.chained.readers_length))

pub pass_locks-requires-clause-last : goal.pass_locks-requires-clause-last
pass_locks-requires-clause-last c =
    let here = c.items-locks.ensures.items ∙ (c.index-sets-position.is ∙ get_or_default c.args.sets.now c.args.position c.index-sets-position.result [] c.requires.below) in
    subst (All (λ (lock : NumberedLock). lock.number < length c.args.last.now)) (sym here) (c.requires.chained.numbers c.args.position)

pub pass_locks-requires-clause-readers : goal.pass_locks-requires-clause-readers
pass_locks-requires-clause-readers c =
    let here = c.items-locks.ensures.items ∙ (c.index-sets-position.is ∙ get_or_default c.args.sets.now c.args.position c.index-sets-position.result [] c.requires.below) in
    subst (All (λ (lock : NumberedLock). lock.number < length c.args.readers.now)) (sym here)
    (λ k d l. let u = c.requires.chained.numbers c.args.position k d l
    in omega (arith, u, c.requires.chained.readers_length))

pub add_edges-requires-clause-within : goal.add_edges-requires-clause-within
add_edges-requires-clause-within c =
    let here = c.items-locks.ensures.items ∙ (c.index-sets-position.is ∙ get_or_default c.args.sets.now c.args.position c.index-sets-position.result [] c.requires.below) in
    let earlier = c.as_slice.ensures.value ∙ (c.in_ok-earlier.ensures ∙ ap (flat_map (awaited_by c.args.last.now c.args.readers.now)) here) in
    let edges = ap once earlier ∙ awaited-is c.args.sets.now c.args.position c.args.last.now c.args.readers.now c.args.later.now c.args.waits.now c.requires.chained in
    awaited-below c.args.sets.now c.args.position c.args.last.now c.args.readers.now c.args.later.now c.args.waits.now c.requires.chained c.as_slice.result.now edges c.requires.below

pub returns : goal.returns
returns c =
    let here = c.items-locks.ensures.items ∙ (c.index-sets-position.is ∙ get_or_default c.args.sets.now c.args.position c.index-sets-position.result [] c.requires.below) in
    let earlier = c.as_slice.ensures.value ∙ (c.in_ok-earlier.ensures ∙ ap (flat_map (awaited_by c.args.last.now c.args.readers.now)) here) in
    let edges = ap once earlier ∙ awaited-is c.args.sets.now c.args.position c.args.last.now c.args.readers.now c.args.later.now c.args.waits.now c.requires.chained in
    let pass = c.in_ok-pass_locks.ensures in
    let writers = subst (λ locks. (n : ℕ) → n < length c.args.last.now
    → get_or c.pass_locks.new.last n None
    ≡ writer_after locks c.args.position n (get_or c.args.last.now n None)) here pass.writers in
    let since = subst (λ locks. (n : ℕ) → n < length c.args.readers.now
    → get_or c.pass_locks.new.readers n []
    ≡ readers_after locks c.args.position n (get_or c.args.readers.now n [])) here pass.readers in
    let added = c.in_ok-waits.ensures in
    subst (λ n. Chained c.args.sets.now (c.args.position + 1) c.pass_locks.new.last c.pass_locks.new.readers c.add_edges.new.rows (set c.args.waits.now c.args.position n)) (sym added.added)
    (Chained-next c.args.sets.now c.args.position c.args.last.now c.args.readers.now c.args.later.now c.args.waits.now c.requires.chained
    c.pass_locks.new.last c.pass_locks.new.readers c.add_edges.new.rows c.as_slice.result.now edges c.requires.below
    c.pass_locks.auto.last c.pass_locks.auto.readers c.add_edges.auto.rows added.edges writers since)
