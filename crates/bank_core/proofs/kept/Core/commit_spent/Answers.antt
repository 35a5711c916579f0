use Rattle.std.proofs.Common.{subst₂, vec_capacity, length, map, arith, ap, ap₂, sym, subst, ◌∙◌}
use Rattle.std.proofs.lemmas.List.{with_items_is, length-map}
use Rattle.bank_law.specs.declared.event.Event.{Event}
use Rattle.bank_law.specs.declared.event.EventKind.TheVariants.{Commit}
use Rattle.bank_law.specs.Job.{keys}
use Rattle.bank_law.specs.Serial.{serial}
use Rattle.bank_law.specs.Machine.{Run, held_count}
use Rattle.bank_law.specs.Lawful.{Fits}
use Rattle.bank_law.proofs.Journals.{legal_push}
use Rattle.bank_core.specs.Effects.{effects_seen}
use Rattle.bank_core.specs.Keeping.{HasBuffers, IsWide}
use Rattle.account_store.specs.State.{at}
use Rattle.bank_core.specs.Slots.{value_of, account_at, put_at, write_numbers}
use Rattle.sol_base.specs.Accounts.{accounts_of}
use Rattle.bank_core.proofs.Numbers.{as_many_written}
use Rattle.bank_law.proofs.Held.{committed_count}
use Rattle.bank_core.proofs.Moves.{holder, holder_below, held_below_count, held_started_mark, commit_keeps, room_left, room_next, room_after, ended_buffers, keeps_same}
use Rattle.bank_core.proofs.kept.Core.commit_spent.Goals as goal

pub put_written-requires-clause-one_each : goal.put_written-requires-clause-one_each
put_written-requires-clause-one_each g c =
    let self = c.args.self.now in
    let K = self.runs in
    let h = holder _ _ _ K.legal _ _ c.requires.held in
    let below = held_below_count _ _ _ _ _ _ _ K _ _ h in
    let job = g.W.Work.job self.origin.value.told in
    let row = c.items.ensures.items ∙ c.set.ensures.set in
    let due = map (serial job (at self.origin.value.start) c.args.spent.position) (keys job c.args.spent.position) in
    let fits = subst (λ o. Fits ((g.W.Work.job o.told).locks c.args.spent.position)
    (map (serial (g.W.Work.job o.told) (at o.start) c.args.spent.position)
    (keys (g.W.Work.job o.told) c.args.spent.position))) c.requires.origin c.args.spent.fits in
    sym (length-map c.args.effects.written value_of) ∙ (ap (λ e. length e.written) c.requires.right
    ∙ (self.lawful.one_each c.args.spent.position due below fits
    ∙ (as_many_written _ job c.args.spent.position _ (K.of.numbered c.args.spent.position below) ∙ ap (λ s. length (write_numbers s)) (sym row))))

pub end_loan-requires-clause-lane : goal.end_loan-requires-clause-lane
end_loan-requires-clause-lane g c =
    let self = c.args.self.now in
    let l = holder_below _ _ _ _ _ _ self.room c.requires.held in
    let m = self.buffered.buffers_length in
    omega (arith, l, m)

pub finish-requires : goal.finish-requires
finish-requires g c =
    let K = c.args.self.now.runs in
    held_started_mark _ _ _ _ _ _ _ K _ _ (holder _ _ _ K.legal _ _ c.requires.held)

pub overflow_sub-self : goal.overflow_sub-self
overflow_sub-self g c =
    let self = c.args.self.now in
    let K = self.runs in
    let h = holder _ _ _ K.legal _ _ c.requires.held in
    let a = committed_count _ _ _ _ _ K.legal h in
    let b = self.counted in
    omega (arith, a, b)

pub end_loan-requires-clause-room : goal.end_loan-requires-clause-room
end_loan-requires-clause-room g c =
    let self = c.args.self.now in
    let K = self.runs in
    let h = holder _ _ _ K.legal _ _ c.requires.held in
    let event : Event = record { kind = Commit; lane = c.args.spent.lane; position = c.args.spent.position } in
    let R = room_next _ _ _ _ event self.room (holder_below _ _ _ _ _ _ self.room c.requires.held) (λ t. absurd (cc)) in
    let l = room_left (g.W.Work.job self.origin.value.told) _ _ _ _ event R (legal_push _ _ _ event K.legal h) in
    let e = self.journal.ok.0 in
    omega (arith, l, e)

pub invariant_of-self : goal.invariant_of-self
invariant_of-self g c = record {
  some = c.args.self.now.some;
  lawful = c.args.self.now.lawful;
  runs = (let self = c.args.self.now in
      let K = self.runs in
      let h = holder _ _ _ K.legal _ _ c.requires.held in
      let position = c.args.spent.position in
      let row = c.items.ensures.items ∙ c.set.ensures.set in
      let filled = with_items_is self.slots c.put_written.new.slots (c.put_written.auto.slots ∙ c.deref_mut.ensures.len) in
      keeps_same _ _ _ _ _ _ _ _ _ _ _ c.finish.ensures filled c.write_at.ensures c.end_loan.ensures.journal
      (commit_keeps _ _ _ _ _ _ _ K c.args.spent.lane position h (effects_seen c.args.effects) c.requires.right c.put_written.new.slots (c.put_written.auto.slots ∙ ap length c.deref_mut.ensures.value)
      (λ n. c.put_written.ensures n ∙ ap₂ (λ s sl. put_at (write_numbers s) (accounts_of c.args.effects.written) (account_at sl) n) row c.deref_mut.ensures.value)));
  apart = c.args.self.now.apart;
  room = (let self = c.args.self.now in
      room_after _ _ _ _ _ _ (record {
        kind = Commit;
        lane = c.args.spent.lane;
        position = c.args.spent.position;
      }) self.room (holder_below _ _ _ _ _ _ self.room c.requires.held) (λ t. absurd (cc))
      c.end_loan.ensures.journal c.end_loan.ensures.capacity);
  buffered = (let self = c.args.self.now in
      let job = g.W.Work.job self.origin.value.told in
      let wide = subst (λ o. IsWide (g.W.Work.job o.told) (vec_capacity c.args.spent.buffer)) c.requires.origin c.args.spent.room in
      subst₂ (λ j b. HasBuffers job self.lanes j b) (sym c.end_loan.ensures.journal) (sym c.end_loan.ensures.buffers)
      (ended_buffers job self.lanes self.journal.items self.buffers.items self.buffered c.args.spent.lane c.args.spent.buffer c.args.spent.empty wide Commit c.args.spent.position));
  counted = (let self = c.args.self.now in
      let K = self.runs in
      let job = g.W.Work.job self.origin.value.told in
      let a = committed_count _ _ _ _ _ K.legal (holder _ _ _ K.legal _ _ c.requires.held) in
      let b = self.counted in
      let e = ap (λ j. held_count job (Run job (at self.origin.value.start) j)) c.end_loan.ensures.journal in
      omega (arith, a, b, e));
}
