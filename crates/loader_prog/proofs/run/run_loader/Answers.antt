use Rattle.loader_prog.proofs.Answering.{answers}
use Rattle.loader_prog.proofs.run.run_loader.Goals as goal

pub returns : goal.returns
returns c = record { exact = answers _ _ c.run_steps.ensures }
