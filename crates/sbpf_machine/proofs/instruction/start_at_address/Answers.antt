use Rattle.std.proofs.Common.{◌<◌, ◌-◌, ◌/◌, sym, ◌∙◌, rules}
use Rattle.sbpf_memory.specs.Memory.{program_start}
use Rattle.sbpf_verify.specs.Places.{max_slots}
use Rattle.sbpf_verify.proofs.Starts.{start_below}
use Rattle.sbpf_machine.proofs.instruction.start_at_address.Goals as goal

pub overflow_cast-result : goal.overflow_cast-result
overflow_cast-result c =
    let below : (c.args.value - program_start) / 8 < max_slots = start_below c.args.program.now _ c.requires (sym c.is_start.ensures ∙ c.if-is_start.true) in search rules
