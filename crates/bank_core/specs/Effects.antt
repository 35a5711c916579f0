-- Effects as the law has them.
use Rattle.bank_law.specs.Job.{JobEffects}
use Rattle.bank_core.specs.declared.work.Effects.{Effects}
use Rattle.sol_base.specs.Accounts.{accounts_of}

-- what effects say, behind the shares
abbrev pub effects_seen : Effects → JobEffects
effects_seen effects = record { outcome = effects.outcome; written = accounts_of effects.written }
