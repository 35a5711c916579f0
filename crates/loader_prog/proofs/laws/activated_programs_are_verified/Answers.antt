use Rattle.loader_prog.proofs.Activating.{activated-is, lamports-active}
use Rattle.loader_prog.proofs.laws.activated_programs_are_verified.Goals as goal

pub returns-clause-activated : goal.returns-clause-activated
returns-clause-activated c = activated-is

pub returns-clause-lamports : goal.returns-clause-lamports
returns-clause-lamports c = lamports-active
