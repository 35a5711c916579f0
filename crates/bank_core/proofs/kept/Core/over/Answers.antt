use Rattle.std.proofs.Common.{None, replicate, ◌≡◌, arith, refl, sym, subst, ◌∙◌, ap, vec_capacity}
use Rattle.account_store.specs.State.{at}
use Rattle.bank_law.specs.Lawful.{IsLawful}
use Rattle.bank_law.specs.Machine.{Run, held_count}
use Rattle.bank_core.specs.Keeping.{Keeps, IsApart, HasRoom, HasBuffers}
use Rattle.bank_core.proofs.Moves.{keeps_same}
use Rattle.bank_core.proofs.Openings.{opening_keeps, opening_room, opening_buffers, opening_count}
use Rattle.bank_core.proofs.kept.Core.over.Goals as goal

pub invariant_of-result : goal.invariant_of-result
invariant_of-result g c = record {
  some = c.requires.some;
  lawful = subst (λ o. IsLawful (g.W.Work.job o.told)) (sym c.origin_of-origin.ensures) (g.W.Work.lawful c.args.work.now);
  runs = (let job = g.W.Work.job (g.W.Work.told c.args.work.now) in
      let n = c.args.numbered in
      let are = c.requires.numbered in
      let slots = c.in_ok-slots.ensures in
      subst (λ o. Keeps (g.W.Work.job o.told) (at o.start) n.table n.graph c.in_ok-slots.slots.items c.in_ok-outcomes.outcomes.items c.in_ok-journal.journal.items) (sym c.origin_of-origin.ensures)
      (keeps_same _ _ _ _ _ _ _ _ _ _ _ are.waiting refl refl c.in_ok-journal.ensures.items
      (opening_keeps job c.args.accounts n.table n.graph.sets c.in_ok-slots.slots.items
      c.in_ok-outcomes.outcomes.items are.long are.numbered are.distinct slots.long slots.stored
      (c.in_ok-outcomes.ensures ∙ ap (λ n. replicate n None) c.count-count.ensures))));
  apart = subst (λ o. IsApart o.start c.slots_of.new.accounts c.args.numbered.table) (sym c.origin_of-origin.ensures) c.in_ok-slots.ensures.apart;
  room = subst (λ o. HasRoom (g.W.Work.job o.told).count c.args.lanes (vec_capacity c.in_ok-journal.journal) c.in_ok-journal.journal.items) (sym c.origin_of-origin.ensures)
      (opening_room _ _ _ _ c.in_ok-journal.ensures.items
      (let e = c.count-count.ensures in let fits = c.count-count.type_inv in omega (arith, e, fits))
      c.requires.most (let e = c.count-count.ensures in let x = c.in_ok-journal.ensures.exact
      in omega (arith, e, x)));
  buffered = subst (λ o. HasBuffers (g.W.Work.job o.told) c.args.lanes c.in_ok-journal.journal.items c.in_ok-buffers.buffers.items) (sym c.origin_of-origin.ensures)
      (opening_buffers (g.W.Work.job (g.W.Work.told c.args.work.now)) c.args.numbered.table
      c.args.numbered.graph.sets c.args.lanes c.args.numbered.room _ _ c.requires.numbered.long
      c.requires.numbered.numbered c.requires.numbered.wide
      c.in_ok-buffers.ensures.long c.in_ok-buffers.ensures.free);
  counted = subst (λ o. 0 ≡ held_count (g.W.Work.job o.told) (Run (g.W.Work.job o.told) (at o.start) c.in_ok-journal.journal.items)) (sym c.origin_of-origin.ensures)
      (opening_count (g.W.Work.job (g.W.Work.told c.args.work.now)) (at c.args.accounts) c.in_ok-journal.journal.items c.in_ok-journal.ensures.items);
}
