-- The admitted transactions of a block as a work, and the job that this is.
use Rattle.std.specs.Prelude.{List, [], length, slice_get, Option, Some, None}
use Rattle.sol_base.specs.declared.account.Account.{Account}
use Rattle.sol_base.specs.declared.lock.Lock.{Lock}
use Rattle.tx_report.specs.declared.status.Status.TheVariants.{Good}
use Rattle.bank_law.specs.Job.{Job, JobEffects}
use Rattle.program_cache.specs.Programs.{sought}
use Rattle.admission.specs.declared.chosen.Chosen.{Chosen}
use Rattle.tx_exec.specs.declared.admitted.AdmittedBlock.{AdmittedBlock}
use Rattle.tx_exec.specs.Executing.{InBlock}
use Rattle.tx_exec.specs.Transaction.{effects}

abbrev pub block_of : AdmittedBlock → InBlock
block_of block = record { programs = sought block.programs; slot = block.slot; height = block.height }

-- the locks of a position, and the effects of its transaction
abbrev pub locks_at : Option Chosen → List Lock
locks_at None = []
locks_at (Some t) = t.locks

abbrev pub no_effects : JobEffects
no_effects = record {
  outcome = record { status = Good; units = 0; base_paid = 0; priority_paid = 0; lines = [] };
  written = [];
}

abbrev pub effects_at : InBlock → Option Chosen → List Account → JobEffects
effects_at block None values = no_effects
effects_at block (Some t) values = effects block t values

-- a position for each transaction
abbrev pub job_of : AdmittedBlock → Job
job_of block = record {
  count = length block.chosen;
  locks = λ i. locks_at (slice_get block.chosen i);
  effects = λ i values. effects_at (block_of block) (slice_get block.chosen i) values;
}
