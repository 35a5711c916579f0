use Rattle.sys_calls.proofs.Rows.{sys_row-units}
use Rattle.sys_calls.proofs.laws.calls_gain_no_units.Goals as goal

pub returns : goal.returns
returns c = record { units = sys_row-units }
