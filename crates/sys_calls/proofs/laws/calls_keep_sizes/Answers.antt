use Rattle.sys_calls.proofs.Rows.{sys_row-memory}
use Rattle.sys_calls.proofs.laws.calls_keep_sizes.Goals as goal

pub returns : goal.returns
returns c = record { memory = sys_row-memory }
