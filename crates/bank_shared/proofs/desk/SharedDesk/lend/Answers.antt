use Rattle.std.proofs.Common.{ap, sym, subst, subst₂, IfSome, ◌<◌, ◌∙◌}
use Rattle.bank_core.specs.Origins.{IsLegalFor}
use Rattle.bank_shared.specs.History.{own, holds}
use Rattle.bank_shared.specs.Plays.{done}
use Rattle.bank_shared.proofs.Turns.{mine_is, has_turn, turn_adds, turn_keeps, granted, granted_is, granted_of, take_adds, take_tells, take_least}
use Rattle.bank_shared.proofs.UnderTurn.{of_desk}
use Rattle.bank_shared.proofs.desk.SharedDesk.lend.Goals as goal

pub take-take-requires-clause-lane : goal.take-take-requires-clause-lane
take-take-requires-clause-lane g c =
    subst (λ k. c.args.pass.now.lane < k.lanes) (sym c.deref_mut.ensures.value)
    (subst (λ r. c.args.pass.now.lane < r.lanes) (sym c.take_turn-kept.ensures.gets.desk)
    (subst (λ o. IfSome o (λ root. c.args.pass.now.lane < root.lanes)) c.requires.desk
    c.args.pass.now.within))

pub take-take-requires-clause-free : goal.take-take-requires-clause-free
take-take-requires-clause-free g c = ap (λ k. holds (own k.journal.items c.args.pass.now.lane))
    c.deref_mut.ensures.value ∙ (ap holds
    (mine_is _ _ _ c.args.pass.now.lane _ c.take_turn-kept.ensures.gets.knows
    (of_desk _ _ c.requires.desk c.args.pass.now.lane_is)) ∙ c.requires.free)

pub release-requires : goal.release-requires
release-requires g c = record {
  table = c.take_turn-kept.ensures.table ∙ c.requires.table;
  desk = (λ i. record { origin = c.take-take.ensures.origin i; lanes = c.take-take.ensures.lanes i })
      ∙ ((λ i. record {
        origin = (c.deref_mut.ensures.value i).origin.value;
        lanes =
            (c.deref_mut.ensures.value i).lanes;
      }) ∙ c.take_turn-kept.ensures.gets.desk);
  slot = ap (λ m. m.1) c.take_turn-kept.ensures.me;
  turn = has_turn _ _ _ _ c.args.pass.now.lane (granted c.take-take.result c.args.pass.now.lane)
      c.args.pass.now.seat.me.0 _ c.take_turn-kept.ensures.me c.args.pass.now.no_parts
      (of_desk _ _ c.requires.desk c.args.pass.now.lane_is) (granted_of c.take-take.result c.args.pass.now.lane)
      (granted_is c.take-take.result _ _ _ _ c.take-take.ensures.journal
      (ap (λ k. k.journal.items) c.deref_mut.ensures.value));
}

pub returns-clause-kept : goal.returns-clause-kept
returns-clause-kept g c =
    turn_keeps _ _ _ _ c.args.pass.now.lane (granted c.take-take.result c.args.pass.now.lane) _ _
    c.take_turn-kept.ensures.gets.knows c.args.pass.now.no_parts
    (of_desk _ _ c.requires.desk c.args.pass.now.lane_is)
    (granted_of c.take-take.result c.args.pass.now.lane)
    (granted_is c.take-take.result _ _ _ _ c.take-take.ensures.journal
    (ap (λ k. k.journal.items) c.deref_mut.ensures.value))
    (ap (λ m. m.0) c.release.ensures.me ∙ ap (λ m. done m.0 c.take-take.new.self.journal.items c.take_turn-kept.result.drawn) c.take_turn-kept.ensures.me)

pub returns-clause-legal : goal.returns-clause-legal
returns-clause-legal g c = subst₂ (λ o j. IsLegalFor g.W.Work.job o j)
    (ap (λ k. k.origin.value) c.deref_mut.ensures.value ∙ ap (λ r. r.origin) c.take_turn-kept.ensures.gets.desk)
    (sym (ap (λ m. m.0.seen) c.release.ensures.me)) c.take-take.ensures.legal

pub returns-clause-event : goal.returns-clause-event
returns-clause-event g c =
    take_adds c.take-take.result _ _ _
    (turn_adds _ _ _ _ c.args.pass.now.lane (granted c.take-take.result c.args.pass.now.lane) _ _
    c.take_turn-kept.ensures.gets.knows c.args.pass.now.no_parts
    (of_desk _ _ c.requires.desk c.args.pass.now.lane_is)
    (granted_of c.take-take.result c.args.pass.now.lane)
    (granted_is c.take-take.result _ _ _ _ c.take-take.ensures.journal
    (ap (λ k. k.journal.items) c.deref_mut.ensures.value))
    (ap (λ m. m.0) c.release.ensures.me ∙ ap (λ m. done m.0 c.take-take.new.self.journal.items c.take_turn-kept.result.drawn) c.take_turn-kept.ensures.me))

pub returns-clause-take : goal.returns-clause-take
returns-clause-take g c = take_tells g.W.Work.job _ _ _ _ _ _
    (ap (λ k. k.origin.value) c.deref_mut.ensures.value ∙ ap (λ r. r.origin) c.take_turn-kept.ensures.gets.desk)
    (ap (λ m. m.0.seen) c.release.ensures.me) c.take-take.result c.take-take.ensures.journal
    c.take-take.ensures.take

pub returns-clause-least : goal.returns-clause-least
returns-clause-least g c = take_least g.W.Work.job _ _ _ _ _ _
    (ap (λ k. k.origin.value) c.deref_mut.ensures.value ∙ ap (λ r. r.origin) c.take_turn-kept.ensures.gets.desk)
    (ap (λ m. m.0.seen) c.release.ensures.me) c.take-take.result c.take-take.ensures.journal
    c.take-take.ensures.take
