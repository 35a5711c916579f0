use Rattle.std.proofs.Common.{arith}
use Rattle.ledger_cli.proofs.Wires.{wires_are_bytes}
use Rattle.ledger_cli.proofs.add.batch_in.Goals as goal

pub returns-clause-bytes : goal.returns-clause-bytes
returns-clause-bytes c = wires_are_bytes _ c.args.bytes.now c.in_ok-batch.batch (λ i. omega (arith, c.type_inv.bytes i)) c.in_ok-batch.ensures.found
