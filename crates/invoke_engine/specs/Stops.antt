-- What is told of the stop of a program, beside the cause of its failure.
use Rattle.std.specs.Prelude.{◌≡◌, Bool, true, false, is_some, Option, Some, None, MatchResult}
use Rattle.tx_report.specs.declared.cause.Cause.{Cause}
use Rattle.tx_report.specs.declared.cause.Cause.TheVariants.{AccessViolation}
use Rattle.invoke_engine.specs.declared.call.StoppedAt.{StoppedAt}
use Rattle.invoke_engine.specs.Frames.{Ending}

-- the cause is that an access was refused
abbrev pub is_violation : Cause → Bool
is_violation AccessViolation = true
is_violation _ = false

-- an access is told
abbrev pub tells_access : Option StoppedAt → Bool
tells_access None = false
tells_access (Some at) = is_some at.access

-- no stop is told where a frame ended well, and an access exactly where its refusal is the cause
abbrev pub TellsStop : Ending → Type 0
TellsStop e =
    MatchResult e.result (λ _. e.carried.stopped_at ≡ None)
    (λ error. is_violation error.cause ≡ tells_access e.carried.stopped_at)
