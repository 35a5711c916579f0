use Rattle.std.proofs.Common.{Option, ap, ◌∙◌}
use Rattle.std.specs.Option.{option_or}
use Rattle.ledger_store.specs.declared.fault.LedgerFault.{LedgerFault}
use Rattle.ledger_store.specs.Watching.{first_unsealed}
use Rattle.ledger_store.proofs.Beside.{first_popped}
use Rattle.ledger_store.proofs.watching.first_unsealed.Goals as goal

pub loop-file-preserved : goal.loop-file-preserved
loop-file-preserved g c =
    ap (option_or (first_unsealed c.pop.new.self)) (c.or-first.ensures ∙ ap (λ (o : Option LedgerFault). option_or o c.loop-file.first) c.unsealed_fault.ensures)
    ∙ first_popped c.args.files c.loop-file.files c.pop.new.self c.in-Some.file c.loop-file.first c.loop-file.invariant c.in-Some.ensures.some
