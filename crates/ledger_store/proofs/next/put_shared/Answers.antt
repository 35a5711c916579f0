use Rattle.std.proofs.Common.{ap, arith}
use Rattle.std.specs.Arc.{arc_value}
use Rattle.sol_base.specs.declared.account.Account.{Account}
use Rattle.account_store.proofs.StateLaws.{sum-put-le}
use Rattle.ledger_store.proofs.next.put_shared.Goals as goal

pub put-requires-clause-fits : goal.put-requires-clause-fits
put-requires-clause-fits c =
    let copy = arc_value c.in_ok-try_clone.field-0 in
    omega (arith, sum-put-le c.args.accounts.now c.args.key.now copy, ap (λ (a : Account). a.lamports) c.in_ok-try_clone.ensures, c.requires.fits)
