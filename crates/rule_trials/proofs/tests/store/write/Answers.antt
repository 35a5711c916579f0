use Rattle.std.proofs.Common.{◌≡◌, ap, ◌∙◌, arith}
use Rattle.std.specs.Arc.{arc_value}
use Rattle.sol_base.specs.declared.account.Account.{Account}
use Rattle.account_store.proofs.StateLaws.{sum-put-le}
use Rattle.rule_trials.proofs.tests.store.write.Goals as goal

pub put-requires-clause-fits : goal.put-requires-clause-fits
put-requires-clause-fits c =
    let account : Account = arc_value c.in_ok-new.field-0 in
    let same : account ≡ c.in_ok-written.written = c.in_ok-new.ensures.ok in
    let grows = sum-put-le c.args.accounts.now c.args.key account in
    let lamports = ap (λ (a : Account). a.lamports) same ∙ c.in_ok-written.ensures.lamports in
    omega (arith, grows, lamports, c.requires)
