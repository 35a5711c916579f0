use Rattle.std.proofs.Common.{[], ◌∷◌, Ok, ap}
use Rattle.sbpf_memory.specs.Plain.{plain_memory}
use Rattle.sys_calls.specs.declared.table.SystemCall.{SystemCall}
use Rattle.sys_calls.specs.Costs.{r1, r2, r3, r4, r5}
use Rattle.sys_calls.specs.Lines.{log_line, log_64_line, log_key_line, log_units_line}
use Rattle.sys_calls.specs.SysCalls.{effect_of}
use Rattle.sys_calls.proofs.Answering.{logs-does}
use Rattle.sys_calls.proofs.serving.take_effect.Goals as goal

pub returns-in-Log : goal.returns-in-Log
returns-in-Log c =
    logs-does (effect_of c.args.call c.args.arguments (plain_memory c.args.memory.now) c.args.env.now)
    (log_line (plain_memory c.args.memory.now) (r1 c.args.arguments) (r2 c.args.arguments))
    c.args.memory.now c.args.env.now c.log.new.env c.log.result
    (ap (λ (k : SystemCall). effect_of k c.args.arguments (plain_memory c.args.memory.now) c.args.env.now) c.in-Log.is) c.log.ensures

pub returns-in-Log64 : goal.returns-in-Log64
returns-in-Log64 c =
    logs-does (effect_of c.args.call c.args.arguments (plain_memory c.args.memory.now) c.args.env.now)
    (Ok (log_64_line (r1 c.args.arguments)
    (r2 c.args.arguments ∷ r3 c.args.arguments ∷ r4 c.args.arguments ∷ r5 c.args.arguments ∷ [])))
    c.args.memory.now c.args.env.now c.log_64.new.env c.log_64.result
    (ap (λ (k : SystemCall). effect_of k c.args.arguments (plain_memory c.args.memory.now) c.args.env.now) c.in-Log64.is) c.log_64.ensures

pub returns-in-LogKey : goal.returns-in-LogKey
returns-in-LogKey c =
    logs-does (effect_of c.args.call c.args.arguments (plain_memory c.args.memory.now) c.args.env.now)
    (log_key_line (plain_memory c.args.memory.now) (r1 c.args.arguments)) c.args.memory.now c.args.env.now
    c.log_key.new.env c.log_key.result
    (ap (λ (k : SystemCall). effect_of k c.args.arguments (plain_memory c.args.memory.now) c.args.env.now) c.in-LogKey.is) c.log_key.ensures

pub returns-in-LogUnits : goal.returns-in-LogUnits
returns-in-LogUnits c =
    logs-does (effect_of c.args.call c.args.arguments (plain_memory c.args.memory.now) c.args.env.now)
    (Ok (log_units_line c.args.env.now.units)) c.args.memory.now c.args.env.now c.log_units.new.env
    c.log_units.result
    (ap (λ (k : SystemCall). effect_of k c.args.arguments (plain_memory c.args.memory.now) c.args.env.now) c.in-LogUnits.is) c.log_units.ensures
