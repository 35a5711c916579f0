use Rattle.std.proofs.Common.{subst₂, vec_capacity, take_all, refl, ◌≡◌, length, map, arith, ap, ap₂, sym, subst, ◌∙◌}
use Rattle.std.proofs.lemmas.List.{with_items_is}
use Rattle.bank_law.specs.declared.event.Event.{Event}
use Rattle.bank_law.specs.declared.event.EventKind.TheVariants.{Return}
use Rattle.bank_law.specs.Job.{keys}
use Rattle.bank_law.specs.Serial.{serial}
use Rattle.bank_law.specs.Machine.{Run, held_count}
use Rattle.bank_law.proofs.Journals.{legal_push}
use Rattle.bank_core.specs.Keeping.{HasBuffers, IsWide}
use Rattle.account_store.specs.State.{at}
use Rattle.bank_core.specs.Slots.{account_at, put_back_at}
use Rattle.sol_base.specs.Accounts.{accounts_of}
use Rattle.bank_law.proofs.Held.{returned_count}
use Rattle.bank_core.proofs.Moves.{holder, holder_below, held_below_count, held_started_mark, return_keeps, lent_many, room_left, room_next, room_after, ended_buffers, keeps_same, wide_as}
use Rattle.prio_graph.specs.Ready.{set_at}
use Rattle.bank_core.proofs.kept.Core.give_back.Goals as goal

pub end_loan-requires-clause-lane : goal.end_loan-requires-clause-lane
end_loan-requires-clause-lane g c =
    let self = c.args.self.now in
    let l = holder_below _ _ _ _ _ _ self.room c.requires.held in
    let m = self.buffered.buffers_length in
    omega (arith, l, m)

pub unstart-requires : goal.unstart-requires
unstart-requires g c =
    let K = c.args.self.now.runs in
    held_started_mark _ _ _ _ _ _ _ K _ _ (holder _ _ _ K.legal _ _ c.requires.held)

pub overflow_sub-self : goal.overflow_sub-self
overflow_sub-self g c =
    let self = c.args.self.now in
    let K = self.runs in
    let a = returned_count _ _ _ _ _ K.legal (holder _ _ _ K.legal _ _ c.requires.held) in
    let b = self.counted in
    omega (arith, a, b)

pub end_loan-requires-clause-room : goal.end_loan-requires-clause-room
end_loan-requires-clause-room g c =
    let self = c.args.self.now in
    let K = self.runs in
    let h = holder _ _ _ K.legal _ _ c.requires.held in
    let event : Event = record { kind = Return; lane = c.args.loan.lane; position = c.args.loan.position } in
    let R = room_next _ _ _ _ event self.room (holder_below _ _ _ _ _ _ self.room c.requires.held) (λ t. c.requires.once) in
    let l = room_left (g.W.Work.job self.origin.value.told) _ _ _ _ event R (legal_push _ _ _ event K.legal h) in
    let e = self.journal.ok.0 in
    omega (arith, l, e)

pub invariant_of-self : goal.invariant_of-self
invariant_of-self g c = record {
  some = c.args.self.now.some;
  lawful = c.args.self.now.lawful;
  runs = (let self = c.args.self.now in
      let K = self.runs in
      let h = holder _ _ _ K.legal _ _ c.requires.held in
      let position = c.args.loan.position in
      let row = c.items.ensures.items ∙ c.set.ensures.set in
      let lent = subst (λ o. accounts_of c.args.loan.values.items
      ≡ map (serial (g.W.Work.job o.told) (at o.start) position) (keys (g.W.Work.job o.told) position))
      c.requires.origin c.args.loan.lent in
      let N = K.of.numbered position (held_below_count _ _ _ _ _ _ _ K _ _ h) in
      let many = lent_many (g.W.Work.job self.origin.value.told) (at self.origin.value.start) self.table position (set_at self.graph.sets position) c.args.loan.values.items N lent in
      let all = take_all (length c.args.loan.values.items) c.items.result.now (let e = ap length row in omega (arith, many, e)) in
      let filled = with_items_is self.slots c.put_back.new.slots (c.put_back.auto.slots ∙ c.deref_mut.ensures.len) in
      keeps_same _ _ _ _ _ _ _ _ _ _ _ c.unstart.ensures filled refl c.end_loan.ensures.journal
      (return_keeps _ _ _ _ _ _ _ K c.args.loan.lane position h self.lawful
      (accounts_of c.args.loan.values.items) lent c.put_back.new.slots
      (c.put_back.auto.slots ∙ ap length c.deref_mut.ensures.value)
      (λ n. c.put_back.ensures.back n ∙ ap₂ (λ s sl. put_back_at s (accounts_of c.args.loan.values.items) (account_at sl) n) (all ∙ row) c.deref_mut.ensures.value)));
  apart = c.args.self.now.apart;
  room = (let self = c.args.self.now in
      room_after _ _ _ _ _ _ (record {
        kind = Return;
        lane = c.args.loan.lane;
        position = c.args.loan.position;
      }) self.room (holder_below _ _ _ _ _ _ self.room c.requires.held) (λ t. c.requires.once)
      c.end_loan.ensures.journal c.end_loan.ensures.capacity);
  buffered = (let self = c.args.self.now in
      let job = g.W.Work.job self.origin.value.told in
      let wide = subst (λ o. IsWide (g.W.Work.job o.told) (vec_capacity c.args.loan.values)) c.requires.origin c.args.loan.room in
      let none = ap length c.put_back.ensures.emptied in
      let long = c.put_back.new.values.ok.0 in
      subst₂ (λ j b. HasBuffers job self.lanes j b) (sym c.end_loan.ensures.journal) (sym c.end_loan.ensures.buffers)
      (ended_buffers job self.lanes self.journal.items self.buffers.items self.buffered c.args.loan.lane
      c.put_back.new.values (omega (arith, none, long)) (wide_as job _ _ c.put_back.ensures.capacity wide)
      Return c.args.loan.position));
  counted = (let self = c.args.self.now in
      let K = self.runs in
      let job = g.W.Work.job self.origin.value.told in
      let a = returned_count _ _ _ _ _ K.legal (holder _ _ _ K.legal _ _ c.requires.held) in
      let b = self.counted in
      let e = ap (λ j. held_count job (Run job (at self.origin.value.start) j)) c.end_loan.ensures.journal in
      omega (arith, a, b, e));
}
