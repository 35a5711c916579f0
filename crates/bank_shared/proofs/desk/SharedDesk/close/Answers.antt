use Rattle.std.proofs.Common.{ap, sym, subst, ◌∙◌}
use mathlib.Core.List.{IsPrefix}
use Rattle.bank_shared.specs.History.{own, own_of}
use Rattle.bank_shared.proofs.Ended.{ended}
use Rattle.bank_shared.proofs.Owns.{covered}
use Rattle.bank_shared.proofs.UnderTurn.{of_desk}
use Rattle.bank_shared.proofs.desk.SharedDesk.close.Goals as goal

pub returns-clause-history : goal.returns-clause-history
returns-clause-history g c = subst (λ k. IsPrefix c.args.pass.seat.me.0.seen k.journal.items) (sym c.into_inner.ensures) c.take_turn-core.ensures.gets.knows.mine.longer

pub returns-clause-ended : goal.returns-clause-ended
returns-clause-ended g c =
    ended g.W.Work.job _ _ _ _ (ap (λ k. k.origin.value) c.into_inner.ensures ∙ ap (λ d. d.origin) c.take_turn-core.ensures.gets.desk) c.into_inner.result.runs.legal
    (subst (λ k. IsPrefix c.args.pass.seat.me.0.seen k.journal.items) (sym c.into_inner.ensures) c.take_turn-core.ensures.gets.knows.mine.longer)

pub returns-clause-each : goal.returns-clause-each
returns-clause-each g c = ap (λ k. own_of k.journal.items c.args.pass.seat.me.0.lanes) c.into_inner.ensures ∙ c.take_turn-core.ensures.gets.knows.mine.own

pub returns-clause-mine : goal.returns-clause-mine
returns-clause-mine g c = ap (λ k. own k.journal.items c.args.pass.lane) c.into_inner.ensures
    ∙ covered _ _ _ _ c.take_turn-core.ensures.gets.knows.mine
    (of_desk _ _ c.requires.desk.1 c.args.pass.lane_is)
