use Rattle.std.proofs.Common.{◌<◌, ◌-◌, length, get_or, set, length-set, subst, sym, ap, ◌∙◌, arith}
use Rattle.prio_graph.specs.Trees.{IsTree, leaf}
use Rattle.prio_graph.proofs.Counting.{free_most}
use Rattle.prio_graph.proofs.Releases.{some_left, waits_step, freed_step, unfreed_step, leaf_written, leaf_kept}
use Rattle.prio_graph.proofs.graph.release.Goals as goal
use Rattle.prio_graph.proofs.graph.release.Goals.{then-waits-at-eq0, else-waits-at-eq0}

pub overflow_sub-waits : goal.overflow_sub-waits
overflow_sub-waits c = some_left c.args.row.now c.loop-i.i-index c.loop-i-test.true c.args.waits.now c.loop-i.waits c.loop-i.invariant.waits c.requires.enough

pub overflow_add-freed : goal.overflow_add-freed
overflow_add-freed c =
    let i = c.loop-i.i-index in
    let before = c.loop-i.invariant in
    let long = c.loop-i.auto.waits in
    let few = c.requires.few in
    let so_far = before.freed in
    let inside : get_or c.args.row.now i 0 < length c.loop-i.waits = let u = c.requires.within i 0 c.loop-i-test.true in omega (arith, u, long) in
    let step = freed_step c.args.row.now i c.loop-i-test.true c.args.waits.now c.loop-i.waits before.waits c.requires.enough inside c.if-waits-at-eq0.true in
    let fewer = set c.loop-i.waits (get_or c.args.row.now i 0) (get_or c.loop-i.waits (get_or c.args.row.now i 0) 0 - 1) in
    let most = free_most fewer in
    let same = length-set c.loop-i.waits (get_or c.args.row.now i 0) (get_or c.loop-i.waits (get_or c.args.row.now i 0) 0 - 1) in
    omega (arith, step, most, so_far, same, long, few)

pub loop-i-preserved : goal.loop-i-preserved
loop-i-preserved c =
    let i = c.loop-i.i-index in
    let count = length c.args.waits.now in
    let before = c.loop-i.invariant in
    let long = c.loop-i.auto.waits in
    let inside : get_or c.args.row.now i 0 < length c.loop-i.waits = let u = c.requires.within i 0 c.loop-i-test.true in omega (arith, u, long) in
    record {
      waits = waits_step c.args.row.now i c.loop-i-test.true c.args.waits.now c.loop-i.waits before.waits c.requires.enough inside;
      is_tree = elim c.if-waits-at-eq0.branch [
        | then-waits-at-eq0 w ↦ subst (λ t. IsTree t count) (sym w.tree-is) w.write_leaf.ensures.is_tree
        | else-waits-at-eq0 w ↦ subst (λ t. IsTree t count) (sym w.tree-is) before.is_tree
      ];
      freed = elim c.if-waits-at-eq0.branch [
        | then-waits-at-eq0 w ↦
            let step = freed_step c.args.row.now i c.loop-i-test.true c.args.waits.now c.loop-i.waits before.waits c.requires.enough inside w.if-waits-at-eq0.true in
            let is = w.freed-is in
            let so_far = before.freed in
            omega (arith, step, is, so_far)
        | else-waits-at-eq0 w ↦
            let step = unfreed_step c.args.row.now i c.loop-i-test.true c.args.waits.now c.loop-i.waits before.waits c.requires.enough inside w.if-waits-at-eq0.false in
            let is = w.freed-is in
            let so_far = before.freed in
            omega (arith, step, is, so_far)
      ];
      leaves = elim c.if-waits-at-eq0.branch [
        | then-waits-at-eq0 w ↦ λ k l. ap (λ t. leaf t count k) w.tree-is
            ∙ leaf_written c.args.row.now i c.loop-i-test.true c.args.waits.now c.loop-i.waits before.waits
            c.requires.enough inside count c.args.tree.now c.loop-i.tree before.leaves
            w.if-waits-at-eq0.true w.write_leaf.new.tree w.write_leaf.ensures.leaves k l
        | else-waits-at-eq0 w ↦ λ k l. ap (λ t. leaf t count k) w.tree-is
            ∙ leaf_kept c.args.row.now i c.loop-i-test.true c.args.waits.now c.loop-i.waits before.waits
            c.requires.enough inside count c.args.tree.now c.loop-i.tree before.leaves
            w.if-waits-at-eq0.false k l
      ];
    }
