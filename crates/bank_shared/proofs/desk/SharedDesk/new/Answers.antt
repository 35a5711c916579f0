use Rattle.std.proofs.Common.{◌≡◌, ◌<◌, true, ap, refl, subst, sym, ◌∙◌}
use Rattle.std.specs.Option.{IfSome}
use Rattle.bank_shared.specs.History.{is_one_of}
use Rattle.bank_shared.proofs.Moves.{opens_at}
use Rattle.bank_shared.proofs.desk.SharedDesk.new.Goals as goal

pub new-requires-2 : goal.new-requires-2
new-requires-2 g c =
    let boxed = c.in_ok-core.ensures.ok in
    opens_at _ _ _ _ c.push.new.self.items _ _ c.in_ok-push.ensures.items c.new-slots.ensures.items
    ((λ i. record { origin = (boxed i).origin.value; lanes = (boxed i).lanes })
    ∙ sym c.origin_of-about.ensures) (ap (λ k. k.journal.items) boxed ∙ c.requires.journal) refl

pub invariant_of-result-2 : goal.invariant_of-result-2
invariant_of-result-2 g c =
    let me = c.in-Ok.ensures.ok.4 in
    record {
      no_slot = ap (λ m. m.1) me;
      no_turn = ap (λ m. m.0.turn) me;
      no_parts = ap (λ m. m.0.joined) me;
      lane_is = subst (λ m. IfSome m.0.origin (λ desk. is_one_of m.0.lanes 0 ≡ true)) (sym me) refl;
      within = subst (λ m. IfSome m.0.origin (λ desk. 0 < desk.lanes)) (sym me)
          (subst (λ o. 0 < o.lanes) (sym c.origin_of-about.ensures) c.args.core.some);
    }
