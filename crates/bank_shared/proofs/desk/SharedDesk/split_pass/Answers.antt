use Rattle.std.proofs.Common.{rules, arith, ◌+◌, [], ◌∷◌, ap, ◌∙◌, None, IfSome, refl, le_refl, ◌≡◌, ◌<◌, sym, subst}
use Rattle.bank_shared.specs.Passes.{OnlySees}
use base.Growing.{prefix_refl}
use Rattle.bank_shared.specs.Rule.{Knows}
use Rattle.bank_shared.specs.Plays.{holding, done}
use Rattle.bank_shared.specs.Kept.{journal_of}
use Rattle.bank_shared.proofs.Moves.{splits}
use Rattle.bank_shared.proofs.Turns.{begins, had_turn}
use Rattle.bank_shared.proofs.UnderTurn.{of_any}
use Rattle.bank_shared.proofs.desk.SharedDesk.split_pass.Goals as goal

pub split_seat-seat-requires : goal.split_seat-seat-requires
split_seat-seat-requires g c = (search rules, search rules, splits _ _ _ _ _ _)

pub release-requires-clause-turn : goal.release-requires-clause-turn
release-requires-clause-turn g c = had_turn _ _ _ c.take_turn-kept.result.drawn _ c.split_seat-seat.result.me.0 _ c.take_turn-kept.ensures.me refl (omega arith)

pub release-requires-else-lane-lanes-clause-turn : goal.release-requires-else-lane-lanes-clause-turn
release-requires-else-lane-lanes-clause-turn g c = had_turn _ _ _ c.take_turn-kept.result.drawn _ c.split_seat-seat.result.me.0 _ c.take_turn-kept.ensures.me refl (le_refl _)

pub invariant_of-result : goal.invariant_of-result
invariant_of-result g c =
    let v = c.args.pass.now.seat.me.0 in
    let h = journal_of c.take_turn-kept.result in
    let d = c.take_turn-kept.result.drawn in
    let fresh = c.split_seat-seat.ensures.4 in
    let me = c.release.ensures.me ∙ ap (λ m. (done m.0 h (d + 1), [])) (c.take_turn-kept.ensures.me ∙ ap (λ m. (holding m.0 h d, (0, None) ∷ [])) fresh) in
    let b = begins _ v _ h d (subst (λ m. Knows c.args.self.now.table.shared.key.value h d m.0) fresh c.take_turn-kept.ensures.gets.knows) c.take_turn-kept.ensures.gets.later (ap (λ m. m.0) me) in
    record {
      no_slot = ap (λ m. m.1) me;
      no_turn = b.1;
      no_parts = b.3;
      lane_is = of_any _ b.4;
      within = subst
          (λ o. IfSome o (λ root. d < root.lanes)) (sym (b.2 ∙ c.requires.desk))
          (subst (λ r. d < r.lanes) c.take_turn-kept.ensures.gets.desk
          (subst (λ k. d < k.lanes) c.deref.ensures (subst (λ n. d < n) c.lanes.ensures c.if-lane-lanes.true)));
    }

pub returns-then-lane-lanes-clause-made : goal.returns-then-lane-lanes-clause-made
returns-then-lane-lanes-clause-made g c =
    let v = c.args.pass.now.seat.me.0 in
    let h = journal_of c.take_turn-kept.result in
    let d = c.take_turn-kept.result.drawn in
    let fresh = c.split_seat-seat.ensures.4 in
    let me = c.release.ensures.me ∙ ap (λ m. (done m.0 h (d + 1), [])) (c.take_turn-kept.ensures.me ∙ ap (λ m. (holding m.0 h d, (0, None) ∷ [])) fresh) in
    let b = begins _ v _ h d (subst (λ m. Knows c.args.self.now.table.shared.key.value h d m.0) fresh c.take_turn-kept.ensures.gets.knows) c.take_turn-kept.ensures.gets.later (ap (λ m. m.0) me) in
    (search rules, b.2, search rules, b.0)

pub returns-then-lane-lanes-clause-kept : goal.returns-then-lane-lanes-clause-kept
returns-then-lane-lanes-clause-kept g c =
    let v = c.args.pass.now.seat.me.0 in
    let same : c.split_seat-seat.new.seat.me.0 ≡ v = ap (λ m. m.0) c.split_seat-seat.ensures.2 in
    subst (λ w. OnlySees v c.args.pass.now.lane w) (sym same)
    (record { keeps = record { origin = refl; longer = prefix_refl v.seen; drawn = le_refl _ }; mine = refl; all = refl; turns = refl })
