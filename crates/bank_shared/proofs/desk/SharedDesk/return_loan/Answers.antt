use Rattle.std.proofs.Common.{◌≡◌, [], ◌∷◌, ap, refl, sym, subst, subst₂, ◌∙◌, Some}
use Rattle.bank_law.specs.declared.event.Event.{Event}
use Rattle.bank_law.specs.declared.event.EventKind.TheVariants.{Return}
use Rattle.bank_law.specs.History.{returns}
use Rattle.bank_core.specs.Origins.{IsLegalFor}
use Rattle.bank_shared.specs.History.{own, holds}
use Rattle.bank_shared.specs.Plays.{done}
use Rattle.bank_shared.proofs.Turns.{mine_is, event_is, has_turn, turn_adds, turn_keeps}
use Rattle.bank_shared.proofs.UnderTurn.{of_desk}
use Rattle.bank_shared.proofs.desk.SharedDesk.return_loan.Goals as goal

pub give_back-requires-clause-origin : goal.give_back-requires-clause-origin
give_back-requires-clause-origin g c = c.requires.origin ∙ sym (ap (λ k. k.origin.value) c.deref_mut.ensures.value ∙ ap (λ r. r.origin) c.take_turn-kept.ensures.gets.desk)

pub give_back-requires-clause-held : goal.give_back-requires-clause-held
give_back-requires-clause-held g c =
    subst (λ l. holds (own c.deref_mut.result.now.journal.items l) ≡ Some c.args.loan.position) (sym c.requires.lane)
    (ap (λ k. holds (own k.journal.items c.args.pass.now.lane)) c.deref_mut.ensures.value
    ∙ ap holds (mine_is _ _ _ c.args.pass.now.lane _ c.take_turn-kept.ensures.gets.knows
    (of_desk _ _ c.requires.desk c.args.pass.now.lane_is)) ∙ c.requires.held)

pub give_back-requires-clause-once : goal.give_back-requires-clause-once
give_back-requires-clause-once g c =
    subst (λ l. returns (own c.deref_mut.result.now.journal.items l) ≡ 0) (sym c.requires.lane)
    (ap (λ k. returns (own k.journal.items c.args.pass.now.lane)) c.deref_mut.ensures.value
    ∙ ap returns (mine_is _ _ _ c.args.pass.now.lane _ c.take_turn-kept.ensures.gets.knows
    (of_desk _ _ c.requires.desk c.args.pass.now.lane_is)) ∙ c.requires.once)

pub release-requires : goal.release-requires
release-requires g c =
    let e : Event = record { kind = Return; lane = c.args.pass.now.lane; position = c.args.loan.position } in
    record {
      table = c.take_turn-kept.ensures.table ∙ c.requires.table;
      desk = (λ i. record { origin = c.give_back.ensures.origin i; lanes = c.give_back.ensures.lanes i })
          ∙ ((λ i. record {
            origin = (c.deref_mut.ensures.value i).origin.value;
            lanes =
                (c.deref_mut.ensures.value i).lanes;
          }) ∙ c.take_turn-kept.ensures.gets.desk);
      slot = ap (λ m. m.1) c.take_turn-kept.ensures.me;
      turn = has_turn _ _ _ _ c.args.pass.now.lane (e ∷ []) c.args.pass.now.seat.me.0 _
          c.take_turn-kept.ensures.me c.args.pass.now.no_parts
          (of_desk _ _ c.requires.desk c.args.pass.now.lane_is) (refl, tt)
          (event_is _ _ _ Return _ _ _ _ c.give_back.ensures.journal (ap (λ k. k.journal.items) c.deref_mut.ensures.value) c.requires.lane refl);
    }

pub returns-clause-kept : goal.returns-clause-kept
returns-clause-kept g c =
    let e : Event = record { kind = Return; lane = c.args.pass.now.lane; position = c.args.loan.position } in
    turn_keeps _ _ _ _ c.args.pass.now.lane (e ∷ []) _ _ c.take_turn-kept.ensures.gets.knows
    c.args.pass.now.no_parts (of_desk _ _ c.requires.desk c.args.pass.now.lane_is) (refl, tt)
    (event_is _ _ _ Return _ _ _ _ c.give_back.ensures.journal
    (ap (λ k. k.journal.items) c.deref_mut.ensures.value) c.requires.lane refl)
    (ap (λ m. m.0) c.release.ensures.me ∙ ap (λ m. done m.0 c.give_back.new.self.journal.items c.take_turn-kept.result.drawn) c.take_turn-kept.ensures.me)

pub returns-clause-legal : goal.returns-clause-legal
returns-clause-legal g c =
    subst₂ (λ o j. IsLegalFor g.W.Work.job o j)
    (c.give_back.ensures.origin ∙
    (ap (λ k. k.origin.value) c.deref_mut.ensures.value
    ∙ ap (λ r. r.origin) c.take_turn-kept.ensures.gets.desk))
    (sym (ap (λ m. m.0.seen) c.release.ensures.me)) c.give_back.new.self.runs.legal

pub returns-clause-event : goal.returns-clause-event
returns-clause-event g c =
    let e : Event = record { kind = Return; lane = c.args.pass.now.lane; position = c.args.loan.position } in
    turn_adds _ _ _ _ c.args.pass.now.lane (e ∷ []) _ _ c.take_turn-kept.ensures.gets.knows
    c.args.pass.now.no_parts (of_desk _ _ c.requires.desk c.args.pass.now.lane_is) (refl, tt)
    (event_is _ _ _ Return _ _ _ _ c.give_back.ensures.journal
    (ap (λ k. k.journal.items) c.deref_mut.ensures.value) c.requires.lane refl)
    (ap (λ m. m.0) c.release.ensures.me ∙ ap (λ m. done m.0 c.give_back.new.self.journal.items c.take_turn-kept.result.drawn) c.take_turn-kept.ensures.me)
