use Rattle.std.proofs.Common.{rules, ℕ, ap, sym, ◌∙◌, ◌∷◌, [], ◌≡◌, ◌≤◌, None, subst, arith}
use Rattle.bank_shared.specs.History.{is_one_of}
use Rattle.bank_shared.specs.Kept.{journal_of}
use Rattle.bank_shared.specs.Rule.{stands, Knows}
use Rattle.bank_shared.specs.Plays.{holding}
use Rattle.bank_shared.specs.Turns.{IsOnTurn}
use Rattle.bank_shared.proofs.Moves.{blanks}
use Rattle.bank_shared.proofs.Turns.{mine_is}
use Rattle.bank_shared.proofs.UnderTurn.{of_desk, lane_drawn, turn_begun}
use Rattle.bank_shared.proofs.desk.SharedDesk.begin_turn.Goals as goal

pub split_seat-seat-requires : goal.split_seat-seat-requires
split_seat-seat-requires g c = (search rules, search rules, blanks _ _ _ _ _ _)

pub invariant_of-result : goal.invariant_of-result
invariant_of-result g c =
    let v = c.args.pass.now.seat.me.0 in
    let h = journal_of c.take_turn-kept.result in
    let d = c.take_turn-kept.result.drawn in
    let same = ap (λ s. s.me.0) c.swap.ensures.y_after ∙ ap (λ m. m.0) c.split_seat-seat.ensures.2 in
    let me = c.take_turn-kept.ensures.me ∙ ap (λ w. (holding w h d, (0, None) ∷ [])) same in
    record {
      slot = ap (λ m. m.1) me;
      no_parts = ap (λ m. m.0.joined) me ∙ c.args.pass.now.no_parts;
      lane_is = ap (λ m. is_one_of m.0.lanes c.args.pass.now.lane) me ∙ of_desk _ _ c.requires.desk.1 c.args.pass.now.lane_is;
      below = λ l is.
          let drawn = lane_drawn v d l c.args.pass.now.no_parts
          (subst (λ w. (k : ℕ) → d ≤ k → stands k w ≡ 0) same c.take_turn-kept.ensures.gets.below)
          (sym (ap (λ m. is_one_of m.0.lanes l) me) ∙ is) in
          let few = c.take_turn-kept.result.below in
          omega (arith, drawn, few);
      events = subst (λ m. IsOnTurn m.0 h d) (sym me) (turn_begun v h d);
    }

pub returns-clause-same : goal.returns-clause-same
returns-clause-same g c =
    let same = ap (λ s. s.me.0) c.swap.ensures.y_after ∙ ap (λ m. m.0) c.split_seat-seat.ensures.2 in
    let h = journal_of c.take_turn-kept.result in
    mine_is c.args.self.now.table.shared.key.value h c.take_turn-kept.result.drawn c.args.pass.now.lane
    c.args.pass.now.seat.me.0 (subst
    (λ w. Knows c.args.self.now.table.shared.key.value h c.take_turn-kept.result.drawn w) same
    c.take_turn-kept.ensures.gets.knows) (of_desk _ _ c.requires.desk.1 c.args.pass.now.lane_is)
