use Rattle.std.proofs.Common.{◌∙◌, sym, arith}
use Rattle.sol_base.specs.Accounts.{accounts_of}
use Rattle.account_rules.proofs.Kept.{all_kept}
use Rattle.account_rules.proofs.Changes.{goes_on, stops, ends_unbalanced, ends_balanced}
use Rattle.account_rules.proofs.rules.check_each.Goals as goal

pub returns-in-Some-clause-exact : goal.returns-in-Some-clause-exact
returns-in-Some-clause-exact c = sym
    (stops c.args.program.now c.args.writable.now c.args.before.now c.args.after.now c.requires.lists.marks
    c.requires.lists.count c.loop-i.i c.index-before-i.result c.index-after-i.result c.in-Some.fault
    c.loop-i-test.true c.index-before-i.is c.index-after-i.is c.loop-i.invariant
    (rw (← c.deref.ensures, ← c.deref-in-loop-i.ensures) (sym c.broken_at.ensures ∙ c.in-Some.is)))

pub loop-i-preserved : goal.loop-i-preserved
loop-i-preserved c = goes_on c.args.program.now c.args.writable.now c.args.before.now c.args.after.now
    c.requires.lists.marks c.requires.lists.count c.loop-i.i c.index-before-i.result c.index-after-i.result
    c.loop-i-test.true c.index-before-i.is c.index-after-i.is c.loop-i.invariant
    (rw (← c.deref.ensures, ← c.deref-in-loop-i.ensures) (sym c.broken_at.ensures ∙ c.in_default.is))

pub returns-then-sum_of-clause-exact : goal.returns-then-sum_of-clause-exact
returns-then-sum_of-clause-exact c = sym
    (ends_unbalanced c.args.program.now c.args.writable.now c.args.before.now c.args.after.now
    c.requires.lists.marks c.requires.lists.count c.loop-i.i (omega arith) c.loop-i.invariant
    (rw (← c.sum_of.ensures, ← c.sum_of-2.ensures) c.if-sum_of.true))

pub returns-clause-exact : goal.returns-clause-exact
returns-clause-exact c = sym
    (ends_balanced c.args.program.now c.args.writable.now c.args.before.now c.args.after.now
    c.requires.lists.marks c.requires.lists.count c.loop-i.i (omega arith) c.loop-i.invariant
    (sym c.sum_of.ensures ∙ c.if-sum_of.false ∙ c.sum_of-2.ensures))

pub returns-clause-kept : goal.returns-clause-kept
returns-clause-kept c = all_kept c.args.program.now c.args.writable.now (accounts_of c.args.before.now)
    (accounts_of c.args.after.now) c.requires.lists.marks c.requires.lists.count
    (ends_balanced c.args.program.now c.args.writable.now c.args.before.now c.args.after.now
    c.requires.lists.marks c.requires.lists.count c.loop-i.i (omega arith) c.loop-i.invariant
    (sym c.sum_of.ensures ∙ c.if-sum_of.false ∙ c.sum_of-2.ensures))
