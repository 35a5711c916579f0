use Rattle.std.proofs.Common.{rules, ap, ◌∙◌, Some}
use Rattle.std.proofs.lemmas.List.Elements.{All-pop}
use Rattle.crossbeam_queue.specs.Passes.{IsPassOf}
use Rattle.intake.specs.declared.seats.SendSeat.{SendSeat}
use Rattle.intake.proofs.Moves.{alone, merges, one_joined}
use Rattle.intake.proofs.ring.Intake.joined.Goals as goal

pub absorb-requires-clause-rule : goal.absorb-requires-clause-rule
absorb-requires-clause-rule c = merges _ _ _ _ _ c.in-Some.seat.sender_is

pub loop-seat-preserved : goal.loop-seat-preserved
loop-seat-preserved c =
    let i = c.loop-seat.invariant in
    let r = c.absorb.ensures.rule in
    let e = c.in-Some.ensures.some in (
      search rules,
      ap alone r ∙ i.1,
      one_joined _ _ _ c.loop-seat.seats c.pop.new.self c.in-Some.seat e i.2 (ap (λ v. v.joined) r),
      (All-pop (λ (s : SendSeat). IsPassOf c.args.self.now.ring s.pass) c.loop-seat.seats c.pop.new.self (Some c.in-Some.seat) e i.3).0,
    )
