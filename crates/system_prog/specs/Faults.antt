-- How the system program refuses.
use Rattle.std.specs.Prelude.{Bool, true, false}
use Rattle.system_prog.specs.declared.fault.SystemFault.{SystemFault}
use Rattle.system_prog.specs.declared.fault.SystemFault.TheVariants.{OutOfMemory as no_memory}

-- out of memory, which no input shows
abbrev pub is_system_memory : SystemFault → Bool
is_system_memory no_memory = true
is_system_memory _ = false
