use Rattle.std.proofs.Common.{subst, sym}
use Rattle.admission.specs.Admission.{AreParsed}
use Rattle.ledger_cli.proofs.Wires.{are_parsed}
use Rattle.ledger_cli.proofs.add.run_batch.Goals as goal

pub run_parsed-requires-clause-read : goal.run_parsed-requires-clause-read
run_parsed-requires-clause-read g c lives outlives = subst (AreParsed c.args.batch.now.wires) (sym c.in_ok-parsed.ensures.parsed) (are_parsed _ c.requires.bytes)
