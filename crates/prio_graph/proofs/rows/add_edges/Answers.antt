use Rattle.std.proofs.Common.{◌≡◌, ◌<◌, [], ◌∷◌, ◌++◌, length, get_or, take, sym, ◌∙◌, ap, subst, arith}
use Rattle.std.proofs.lemmas.List.{length-take, take_more, get_or_default}
use Rattle.prio_graph.specs.Kept.{ends_in}
use Rattle.prio_graph.proofs.Once.{length-once}
use Rattle.prio_graph.proofs.Adding.{Added, Added-again, Added-new}
use Rattle.prio_graph.proofs.rows.add_edges.Goals as goal
use Rattle.prio_graph.proofs.rows.add_edges.Goals.{then-not-ends_in+in_ok-push_at, else-not-ends_in}

pub overflow_add-added : goal.overflow_add-added
overflow_add-added c =
    let counted = c.loop-j.invariant.counted in
    let most = length-once (take c.loop-j.j-index c.args.earlier.now) in
    let long = length-take c.loop-j.j-index c.args.earlier.now in
    let below = c.loop-j-test.true in
    omega (arith, counted, most, long, below)

pub loop-j-preserved : goal.loop-j-preserved
loop-j-preserved c =
    let earlier = c.args.earlier.now in
    let k = c.loop-j.j-index in
    let x = get_or earlier k 0 in
    let rows = c.loop-j.rows in
    let position = c.args.position in
    let below : x < length rows = let u = c.requires.within k 0 c.loop-j-test.true in let long = c.loop-j.auto.rows in omega (arith, u, long) in
    let row = c.as_slice.ensures ∙ get_or_default rows x c.index-rows-at.result [] below in
    let ends : c.ends_in.result ≡ ends_in (get_or rows x []) position = c.ends_in.ensures ∙ ap (λ r. ends_in r position) row in
    let step : Added c.args.rows.now position (take k earlier ++ x ∷ []) c.if-not-ends_in.rows c.if-not-ends_in.added =
    elim c.if-not-ends_in.branch [
      | then-not-ends_in+in_ok-push_at w ↦
          rw (w.rows-is, w.in_ok-push_at.ensures.ok, w.added-is)
          (Added-new c.args.rows.now position (take k earlier) rows c.loop-j.added x c.loop-j.invariant below (sym ends ∙ w.if-not-ends_in.true))
      | else-not-ends_in w ↦
          rw (w.rows-is, w.added-is)
          (Added-again c.args.rows.now position (take k earlier) rows c.loop-j.added x c.loop-j.invariant (sym ends ∙ w.if-not-ends_in.false))
    ] in
    subst (λ l. Added c.args.rows.now position l c.if-not-ends_in.rows c.if-not-ends_in.added) (sym (take_more earlier k 0 c.loop-j-test.true)) step
