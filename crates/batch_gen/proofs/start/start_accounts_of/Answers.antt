use Rattle.batch_gen.proofs.Starting.{starts_few, starts_short, is_start, only_memory, start_len}
use Rattle.batch_gen.proofs.start.start_accounts_of.Goals as goal
use Rattle.std.proofs.Common.{arith}

pub from_sorted-requires-clause-few : goal.from_sorted-requires-clause-few
from_sorted-requires-clause-few c = rw c.in_ok-list_accounts.ensures (omega (arith, starts_few))

pub from_sorted-requires-clause-short : goal.from_sorted-requires-clause-short
from_sorted-requires-clause-short c = rw c.in_ok-list_accounts.ensures starts_short

pub unreachable-requires : goal.unreachable-requires
unreachable-requires c = absurd (c.in_default.not-OutOfMemory (only_memory c.in-Err.fault (rw c.in_ok-list_accounts.ensures at c.in-Err.ensures)))

pub returns-in-Ok-clause-exact : goal.returns-in-Ok-clause-exact
returns-in-Ok-clause-exact c = is_start c.in-Ok.accounts (rw c.in_ok-list_accounts.ensures at c.in-Ok.ensures)

pub returns-in-Ok-clause-few : goal.returns-in-Ok-clause-few
returns-in-Ok-clause-few c = start_len c.in-Ok.accounts (rw c.in_ok-list_accounts.ensures at c.in-Ok.ensures)
