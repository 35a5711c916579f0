use Rattle.std.proofs.Common.{arith}
use Rattle.snapshot_codec.proofs.AccountLaws.{good_list, state_read}
use Rattle.snapshot_codec.proofs.accounts.read_state.Goals as goal

pub from_sorted-requires-clause-few : goal.from_sorted-requires-clause-few
from_sorted-requires-clause-few c = (good_list c.args.total c.args.bytes.now c.in_ok-entries.entries c.in_ok-entries.rest.now (λ i. omega (arith, c.type_inv.bytes i)) c.in_ok-entries.ensures).few

pub from_sorted-requires-clause-short : goal.from_sorted-requires-clause-short
from_sorted-requires-clause-short c = (good_list c.args.total c.args.bytes.now c.in_ok-entries.entries c.in_ok-entries.rest.now (λ i. omega (arith, c.type_inv.bytes i)) c.in_ok-entries.ensures).short

pub returns-in-Ok : goal.returns-in-Ok
returns-in-Ok c = state_read c.args.total c.args.bytes.now c.in_ok-entries.entries c.in_ok-entries.rest.now
    c.in-Ok.accounts (λ i. omega (arith, c.type_inv.bytes i)) c.in_ok-entries.ensures c.in-Ok.ensures
