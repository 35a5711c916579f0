use Rattle.std.proofs.Common.{Result, Err, sym, ◌∙◌, ap, subst}
use Rattle.std.proofs.lemmas.Result.{err_from_is_err_and}
use Rattle.ledger_store.specs.declared.fault.LedgerFault.{LedgerFault}
use Rattle.ledger_store.specs.declared.opening.Ledger.{Ledger}
use Rattle.ledger_store.specs.Opening.{opened}
use Rattle.ledger_store.specs.Reading.{TellsListed}
use Rattle.ledger_store.proofs.Beside.{is_open_finished}
use Rattle.ledger_store.proofs.watching.open_ledger.Goals as goal

pub returns-in_err-opening-clause-tells : goal.returns-in_err-opening-clause-tells
returns-in_err-opening-clause-tells g c =
    let p = err_from_is_err_and c.from_residual.result c.from_residual.ensures.1 in
    let same = p.1 ∙ ap (λ (e : LedgerFault). let r : Result Ledger LedgerFault = Err e in r) p.2 in
    subst (λ (r : Result Ledger LedgerFault). TellsListed (g.F.Folder.events c.args.folder.now) (g.F.Folder.events c.begin_opening.new.folder) r opened) (sym same) c.in_err-opening.ensures.tells

pub returns-clause-tells : goal.returns-clause-tells
returns-clause-tells g c =
    subst (λ (r : Result Ledger LedgerFault). TellsListed (g.F.Folder.events c.args.folder.now)
    (g.F.Folder.events c.begin_opening.new.folder) r opened) (sym c.finish.ensures.finished)
    c.in_ok-opening.ensures.tells

pub returns-clause-opens : goal.returns-clause-opens
returns-clause-opens g c = is_open_finished (g.F.Folder.events c.begin_opening.new.folder) c.in_ok-opening.opening c.finish.result c.finish.ensures.finished c.in_ok-opening.ensures.opens
