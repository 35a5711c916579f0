-- Machines without the notes which places of their input are prepared and which accounts were lent.
use Rattle.std.specs.Prelude.{Option, Some, None}
use Rattle.sbpf_memory.specs.Plain.{plain_memory}
use Rattle.sbpf_machine.specs.declared.context.Context.{Context}
use Rattle.sbpf_machine.specs.Steps.{State}

abbrev pub plain_context : Context → Context
plain_context c = record c { memory = plain_memory c.memory }

abbrev pub plain : State → State
plain x = record x { context = plain_context x.context }

-- where a run stops, with plain memory
abbrev pub plain_stopped : Option State → Option State
plain_stopped None = None
plain_stopped (Some x) = Some (plain x)
