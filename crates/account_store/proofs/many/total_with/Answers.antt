use Rattle.std.proofs.Common.{◌+◌, arith, ap, ◌∙◌}
use Rattle.sol_base.specs.declared.account.Account.{Account}
use Rattle.std.proofs.lemmas.List.{take_all}
use Rattle.account_store.proofs.Walks.{weight, weight_more}
use Rattle.account_store.proofs.many.total_with.Goals as goal

pub overflow_add-total : goal.overflow_add-total
overflow_add-total c =
    let more = weight_more c.args.entries.now c.loop-entry.entry-index c.entry-item.result c.loop-entry-test.true c.entry-item.is in
    let here = ap (λ (a : Account). a.lamports) c.deref.ensures in
    let so_far = c.loop-entry.invariant in
    let least = more.1 in
    let most = c.requires in
    omega (arith, here, so_far, least, most)

pub loop-entry-preserved : goal.loop-entry-preserved
loop-entry-preserved c =
    let more = weight_more c.args.entries.now c.loop-entry.entry-index c.entry-item.result c.loop-entry-test.true c.entry-item.is in
    let here = ap (λ (a : Account). a.lamports) c.deref.ensures in
    let so_far = c.loop-entry.invariant in
    let next = more.0 in
    omega (arith, here, so_far, next)

pub returns : goal.returns
returns c = c.loop-entry.invariant ∙ ap (λ es. c.args.before + weight es) (take_all c.loop-entry.entry-index c.args.entries.now c.loop-entry-test.false)
