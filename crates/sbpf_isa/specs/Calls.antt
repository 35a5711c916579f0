-- The system calls by their numbers (the project's own).
use Rattle.std.specs.Prelude.{ℕ, ◌<◌, ◌≤◌}
use Rattle.sbpf_isa.specs.declared.call.TheConstants.{INVOKE_CALL}

-- the number of the cross-program call
abbrev pub invoke_call : ℕ
invoke_call = INVOKE_CALL

-- the numbers of all system calls
abbrev pub IsCallNumber : ℕ → Type 0
IsCallNumber number = (1 ≤ number) × (number ≤ invoke_call)

-- the numbers of those that are served at once
abbrev pub IsServed : ℕ → Type 0
IsServed number = (1 ≤ number) × (number < invoke_call)
