use Rattle.sys_calls.proofs.GrownLogs.{service-grows}
use Rattle.sys_calls.proofs.laws.calls_add_lines.Goals as goal

pub returns : goal.returns
returns c = record { lines = service-grows }
