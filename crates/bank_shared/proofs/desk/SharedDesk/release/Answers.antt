use Rattle.std.proofs.Common.{rules, ◌∷◌, ◌*◌, [], length, ap, ◌∙◌, Some, subst, sym}
use Rattle.atomic_table.specs.Table.{rest}
use Rattle.bank_shared.specs.Kept.{journal_of}
use Rattle.bank_shared.specs.Plays.{done, HasTurn}
use Rattle.bank_shared.proofs.Moves.{releases_at}
use Rattle.bank_shared.proofs.desk.SharedDesk.release.Goals as goal

pub store-requires : goal.store-requires
store-requires g c =
    let x = c.exchange.ensures in (
      search rules,
      search rules,
      releases_at _ _ _ _ _ _ _ c.exchange.new.seat.me c.args.kept
          (ap (λ m. m.1) x.3 ∙ ap (λ l. (0, Some c.args.kept) ∷ rest l) c.requires.slot)
          (subst (λ m. HasTurn m.0 (journal_of c.args.kept) c.args.kept.drawn) (sym x.3) c.requires.turn)
          c.requires.desk (ap (λ n. 2 * n)
          (c.event_count.ensures.count ∙ ap (λ k. length k.journal.items) c.deref.ensures)),
    )

pub returns-clause-me : goal.returns-clause-me
returns-clause-me g c =
    let x = c.exchange.ensures in
    c.store.ensures.2 c.args.kept (ap (λ m. m.1) x.3 ∙ ap (λ l. (0, Some c.args.kept) ∷ rest l) c.requires.slot) ∙ ap (λ m. (done m.0 (journal_of c.args.kept) c.args.kept.drawn, [])) x.3
