use Rattle.std.proofs.Common.{ap, arith}
use Rattle.std.specs.Arc.{arc_value}
use Rattle.sol_base.specs.declared.account.Account.{Account}
use Rattle.account_store.proofs.StateLaws.{sum-put-le}
use Rattle.lane_trials.proofs.tests.trial.put_more.Goals as goal

pub put-requires-clause-fits : goal.put-requires-clause-fits
put-requires-clause-fits c =
    let account : Account = arc_value c.in_ok-share.share in
    let grows = sum-put-le c.args.accounts.now c.args.key account in
    let same = ap (λ (a : Account). a.lamports) c.in_ok-share.ensures.ok in
    omega (arith, grows, same, c.requires.few, c.requires.room)
