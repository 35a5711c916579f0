use Rattle.std.proofs.Common.{◌∙◌, sym}
use Rattle.sol_base.specs.Accounts.{accounts_of}
use Rattle.account_rules.proofs.Sums.{rules_kept, rules_stop, rules_unbalanced}
use Rattle.account_rules.proofs.KeptLaws.{AreKeptBy-listed_rules, AreForeignKept-listed_rules}
use Rattle.account_rules.proofs.listed.check_listed.Goals as goal

pub returns-in-Some-clause-exact : goal.returns-in-Some-clause-exact
returns-in-Some-clause-exact c = sym
    (rules_stop c.args.program.now c.args.metas.now (accounts_of c.args.before.now)
    (accounts_of c.args.after.now) c.in-Some.fault (sym c.first_fault.ensures ∙ c.in-Some.is))

pub returns-then-sum_of-clause-exact : goal.returns-then-sum_of-clause-exact
returns-then-sum_of-clause-exact c = sym
    (rules_unbalanced c.args.program.now c.args.metas.now (accounts_of c.args.before.now)
    (accounts_of c.args.after.now) c.requires.lists.count c.requires.range c.requires.unlisted
    (sym c.first_fault.ensures ∙ c.in_default.is)
    (rw (← c.sum_of.ensures, ← c.sum_of-2.ensures) c.if-sum_of.true))

pub returns-clause-exact : goal.returns-clause-exact
returns-clause-exact c = sym
    (rules_kept c.args.program.now c.args.metas.now (accounts_of c.args.before.now)
    (accounts_of c.args.after.now) c.requires.lists.count c.requires.range c.requires.unlisted
    (sym c.first_fault.ensures ∙ c.in_default.is)
    (sym c.sum_of.ensures ∙ c.if-sum_of.false ∙ c.sum_of-2.ensures))

pub returns-clause-kept : goal.returns-clause-kept
returns-clause-kept c = AreKeptBy-listed_rules c.args.program.now c.args.metas.now
    (accounts_of c.args.before.now) (accounts_of c.args.after.now) c.requires.lists.count c.requires.range
    c.requires.unlisted (rules_kept c.args.program.now c.args.metas.now (accounts_of c.args.before.now)
    (accounts_of c.args.after.now) c.requires.lists.count c.requires.range c.requires.unlisted
    (sym c.first_fault.ensures ∙ c.in_default.is)
    (sym c.sum_of.ensures ∙ c.if-sum_of.false ∙ c.sum_of-2.ensures))

pub returns-clause-foreign : goal.returns-clause-foreign
returns-clause-foreign c = AreForeignKept-listed_rules c.args.program.now c.args.metas.now
    (accounts_of c.args.before.now) (accounts_of c.args.after.now) c.requires.lists.count c.requires.range
    c.requires.unlisted (rules_kept c.args.program.now c.args.metas.now (accounts_of c.args.before.now)
    (accounts_of c.args.after.now) c.requires.lists.count c.requires.range c.requires.unlisted
    (sym c.first_fault.ensures ∙ c.in_default.is)
    (sym c.sum_of.ensures ∙ c.if-sum_of.false ∙ c.sum_of-2.ensures))
