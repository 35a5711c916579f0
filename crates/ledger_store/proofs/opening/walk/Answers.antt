use Rattle.std.proofs.Common.{◌+◌, ℕ, List, drop, slice_index, Result, Err, sym, ◌∙◌, ap, subst}
use Rattle.std.proofs.lemmas.List.{at_drop_more}
use Rattle.std.proofs.lemmas.Result.{err_from_is_err_and}
use Rattle.spec_base.specs.Reading.{◌>>=◌, Gives}
use Rattle.snapshot_codec.specs.declared.snapshot.Snapshot.{Snapshot}
use Rattle.ledger_store.specs.declared.fault.LedgerFault.{LedgerFault}
use Rattle.ledger_store.specs.Faults.{is_free}
use Rattle.ledger_store.specs.Opening.{stepped, walked}
use Rattle.ledger_store.specs.Reading.{Tells}
use Rattle.ledger_store.proofs.Telling.{err_then}
use Rattle.ledger_store.proofs.opening.walk.Goals as goal

pub loop-slot-preserved : goal.loop-slot-preserved
loop-slot-preserved g c = record {
  readable = c.in_ok-newest.ensures.readable;
  widths = λ had. c.in_ok-newest.ensures.widths (c.loop-slot.invariant.widths had);
  told = λ disk shows.
      let slots = c.args.slots.now in
      let i = c.loop-slot.slot-index in
      let s = c.in_ok-newest.ensures.tells disk shows in
      let b = c.loop-slot.invariant.told disk s.0 in
      let step = at_drop_more (λ (l : List ℕ). walked disk l c.loop-slot.newest) slots i 0 c.loop-slot-test.true in
      (b.0, b.1 ∙ step ∙ ap (λ (r : Result Snapshot LedgerFault). r >>= walked disk (drop (i + 1) slots)) s.1);
  stands = c.in_ok-newest.ensures.counts ∙ c.loop-slot.invariant.stands;
}

pub returns-in_err-newest-clause-tells : goal.returns-in_err-newest-clause-tells
returns-in_err-newest-clause-tells g c =
    let slots = c.args.slots.now in
    let fault = c.in_err-newest.field-0.0 in
    let p = err_from_is_err_and c.from_residual.result c.from_residual.ensures.1 in
    let same = p.1 ∙ ap (λ (e : LedgerFault). let r : Result Snapshot LedgerFault = Err e in r) p.2 in
    subst (λ (r : Result Snapshot LedgerFault). Tells (g.F.Folder.events c.args.folder.now) (g.F.Folder.events c.step.new.folder) r (λ disk. walked disk slots c.args.before)) (sym same)
    (λ disk shows.
    let i = c.loop-slot.slot-index in
    let newest = c.loop-slot.newest in
    let s = c.in_err-newest.ensures.tells disk shows in
    let b = c.loop-slot.invariant.told disk s.0 in
    let step = at_drop_more (λ (l : List ℕ). walked disk l newest) slots i 0 c.loop-slot-test.true in (
      b.0,
      subst (λ (r : Result Snapshot LedgerFault). Gives is_free (λ (x : Snapshot). x) (let e : Result Snapshot LedgerFault = Err fault in e) r) (sym (b.1 ∙ step))
          (err_then (is_free fault) fault (stepped disk (slice_index slots i) newest) (walked disk (drop (i + 1) slots)) s.1),
    ))
