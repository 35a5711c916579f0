use Rattle.std.proofs.Common.{Result, Ok, sym, ◌∙◌, ap, subst}
use Rattle.ledger_store.specs.declared.fault.LedgerFault.{LedgerFault}
use Rattle.ledger_store.specs.declared.opening.Ledger.{Ledger}
use Rattle.ledger_store.specs.Adding.{Follows}
use Rattle.ledger_cli.proofs.Nexts.{nothing_added, opened_added, opened_stands, result_follows, result_readable, result_wide}
use Rattle.ledger_cli.proofs.add.add_batch.Goals as goal

pub returns-in_err-ran-clause-any_moment : goal.returns-in_err-ran-clause-any_moment
returns-in_err-ran-clause-any_moment g c done = nothing_added c.args.opening.ledger c.args.batch.now (g.F.Folder.events c.args.files.now) (c.requires.opening c.args.opening.ledger done)

pub returns-then-not-has_room-clause-any_moment : goal.returns-then-not-has_room-clause-any_moment
returns-then-not-has_room-clause-any_moment g c done = nothing_added c.args.opening.ledger c.args.batch.now (g.F.Folder.events c.args.files.now) (c.requires.opening c.args.opening.ledger done)

pub add-added-requires-clause-opens : goal.add-added-requires-clause-opens
add-added-requires-clause-opens g c = c.requires.opening c.in-Ok.ledger (sym c.in-Ok.ensures.finished)

pub add-added-requires-clause-after : goal.add-added-requires-clause-after
add-added-requires-clause-after g c =
    result_readable c.next_blocks_can_be_run.ensures.next c.args.opening.ledger.newest c.args.batch.now c.in_ok-ran.ran c.requires.readable c.requires.bytes c.requires.few c.in_ok-ran.ensures
    (c.has_room.ensures.fits c.if-not-has_room.false)

pub add-added-requires-clause-follows : goal.add-added-requires-clause-follows
add-added-requires-clause-follows g c =
    subst (λ (l : Ledger). Follows l.newest c.in_ok-ran.ran.block c.in_ok-ran.ran.after) (sym c.in-Ok.ensures.same)
    (result_follows c.args.opening.ledger.newest c.args.batch.now c.in_ok-ran.ran c.in_ok-ran.ensures)

pub returns-in_err-answer-clause-any_moment : goal.returns-in_err-answer-clause-any_moment
returns-in_err-answer-clause-any_moment g c done =
    opened_added c.args.opening.ledger c.in-Ok.ledger c.args.batch.now c.in_ok-ran.ran c.in_ok-ran.run'
    (g.F.Folder.events c.args.files.now) (g.F.Folder.events c.add-added.new.folder) c.in-Ok.ensures.same
    c.in_ok-ran.ensures
    (result_wide c.snapshots_after_blocks_have_widths.ensures.widths c.args.opening.ledger.newest c.args.batch.now c.requires.readable c.requires.widths c.requires.bytes c.requires.fits c.requires.collector)
    c.add-added.ensures.any_moment

pub returns-clause-any_moment : goal.returns-clause-any_moment
returns-clause-any_moment g c done =
    opened_added c.args.opening.ledger c.in-Ok.ledger c.args.batch.now c.in_ok-ran.ran c.in_ok-ran.run'
    (g.F.Folder.events c.args.files.now) (g.F.Folder.events c.add-added.new.folder) c.in-Ok.ensures.same
    c.in_ok-ran.ensures
    (result_wide c.snapshots_after_blocks_have_widths.ensures.widths c.args.opening.ledger.newest c.args.batch.now c.requires.readable c.requires.widths c.requires.bytes c.requires.fits c.requires.collector)
    c.add-added.ensures.any_moment

pub returns-clause-stands : goal.returns-clause-stands
returns-clause-stands g c zero = (
  sym c.in-Ok.ensures.finished ∙ ap (λ (l : Ledger). let r : Result Ledger LedgerFault = Ok l in r) c.in-Ok.ensures.same,
  opened_stands c.args.opening.ledger c.in-Ok.ledger c.args.batch.now c.in_ok-ran.ran c.in_ok-ran.run' c.add-added.result c.in_ok-answer.answer.status
      (g.F.Folder.events c.args.files.now) (g.F.Folder.events c.add-added.new.folder) c.in-Ok.ensures.same
      c.in_ok-ran.ensures c.in_ok-answer.ensures
      (result_wide c.snapshots_after_blocks_have_widths.ensures.widths c.args.opening.ledger.newest c.args.batch.now c.requires.readable c.requires.widths c.requires.bytes c.requires.fits c.requires.collector)
      c.add-added.ensures.lasts zero,
)
