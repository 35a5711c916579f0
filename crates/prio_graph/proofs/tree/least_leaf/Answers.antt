use Rattle.std.proofs.Common.{inr, arith}
use Rattle.prio_graph.proofs.TreeLaws.{root_least, root_shown}
use Rattle.prio_graph.proofs.tree.least_leaf.Goals as goal

pub returns-then-tree-gt1-clause-least : goal.returns-then-tree-gt1-clause-least
returns-then-tree-gt1-clause-least c = root_least c.args.tree.now c.args.count c.requires.is_tree

pub returns-then-tree-gt1-clause-shown : goal.returns-then-tree-gt1-clause-shown
returns-then-tree-gt1-clause-shown c = inr (root_shown c.args.tree.now c.args.count c.requires.is_tree (omega arith))
