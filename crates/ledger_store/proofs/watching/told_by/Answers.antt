use Rattle.std.proofs.Common.{map, Result, Err, sym, ◌∙◌, ap, subst}
use Rattle.std.proofs.lemmas.Result.{err_from_is_err_and}
use Rattle.std.specs.Arc.{arc_value}
use Rattle.spec_base.specs.Reading.{Gives}
use Rattle.snapshot_codec.specs.declared.snapshot.Snapshot.{Snapshot}
use Rattle.ledger_store.specs.declared.fault.LedgerFault.{LedgerFault}
use Rattle.ledger_store.specs.Faults.{is_free}
use Rattle.ledger_store.specs.States.{state_from}
use Rattle.ledger_store.specs.Ahead.{seen, told_by, walked_by}
use Rattle.ledger_store.specs.Watching.{settled}
use Rattle.ledger_store.proofs.Beside.{more_settled, stays_settled}
use Rattle.ledger_store.proofs.watching.told_by.Goals as goal

pub returns-in_err-before-clause-tells : goal.returns-in_err-before-clause-tells
returns-in_err-before-clause-tells g c =
    let files = c.args.files.now in
    let later = c.full_told.new.files in
    let full = arc_value c.args.begun.full.bytes in
    let ahead = map seen c.args.begun.ahead in
    let p = err_from_is_err_and c.from_residual.result c.from_residual.ensures.1 in
    let same = p.1 ∙ ap (λ (e : LedgerFault). let r : Result Snapshot LedgerFault = Err e in r) p.2 in
    subst (λ (r : Result Snapshot LedgerFault). Gives is_free (λ (s : Snapshot). s) (settled later r) (settled files (told_by c.args.slot full ahead))) (sym same)
    (stays_settled files later c.in_err-before.field-0.0 (state_from c.args.slot full) (walked_by ahead) c.in_err-before.ensures.tells)

pub returns-clause-tells : goal.returns-clause-tells
returns-clause-tells g c =
    let files = c.args.files.now in
    let full = arc_value c.args.begun.full.bytes in
    let ahead = map seen c.args.begun.ahead in
    subst (λ (r : Result Snapshot LedgerFault). Gives is_free (λ (s : Snapshot). s) (settled c.walk_by.new.files c.walk_by.result) r)
    (sym (more_settled files c.full_told.new.files c.in_ok-before.before (state_from c.args.slot full) (walked_by ahead) c.in_ok-before.ensures.tells)) c.walk_by.ensures.tells
