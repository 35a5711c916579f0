use Rattle.batch_gen.proofs.Starting.{starts_readable}
use Rattle.batch_gen.proofs.start.start_snapshot.Goals as goal

pub returns-clause-readable : goal.returns-clause-readable
returns-clause-readable c =
    rw (c.first.ensures, c.in_ok-start_recent.ensures.exact) (starts_readable c.in_ok-start_accounts_of.field-0 c.in_ok-start_accounts_of.ensures.state c.in_ok-start_accounts_of.ensures.few)
