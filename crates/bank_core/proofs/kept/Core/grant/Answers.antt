use Rattle.std.proofs.Common.{◌∷◌, [], ◌++◌, subst₂, vec_capacity, set-set, set, refl, ◌≡◌, ◌<◌, length, map, arith, ap, ap₂, sym, subst, ◌∙◌}
use Rattle.std.proofs.lemmas.List.{with_items_is}
use Rattle.bank_law.specs.declared.event.Event.{Event}
use Rattle.bank_law.specs.declared.event.EventKind.TheVariants.{Grant}
use Rattle.bank_law.specs.Job.{keys}
use Rattle.bank_law.specs.Serial.{serial}
use Rattle.bank_law.specs.Machine.{Run, held_count}
use Rattle.bank_law.specs.Lawful.{Fits}
use Rattle.bank_law.proofs.Journals.{legal_push}
use Rattle.bank_core.specs.Keeping.{HasBuffers, IsWide}
use Rattle.account_store.specs.State.{at}
use Rattle.bank_core.specs.Slots.{account_at, taken_at, AllThere, AreDistinct, ReadsAny, found, write_numbers}
use Rattle.sol_base.specs.Accounts.{accounts_of}
use Rattle.bank_law.proofs.Held.{granted_count, few_held}
use Rattle.bank_core.proofs.Moves.{grant_keeps, same_slots_keep, all_there, ready_once, ready_set, lent_right, holds_none, taken_buffers, kept_buffers, free_buffer, reads_is, room_left, room_next, room_after, keeps_same, wide_as}
use Rattle.bank_core.proofs.Supply.{is_start}
use Rattle.bank_law.proofs.Supply.{turn_fits}
use Rattle.prio_graph.proofs.MachineLaws.{ready_is}
use Rattle.bank_core.proofs.kept.Core.grant.Goals as goal

pub lend-requires-clause-there : goal.lend-requires-clause-there
lend-requires-clause-there g c =
    λ k d l. (let K = c.args.self.now.runs in
    let row = c.items.ensures.items ∙ c.set.ensures.set in
    subst₂ (λ s sl. AllThere s (account_at sl)) (sym row) (sym c.deref_mut.ensures.value) (all_there _ _ _ _ _ _ _ K c.args.position c.requires.least.ready) k d l)

pub lend-requires-clause-distinct : goal.lend-requires-clause-distinct
lend-requires-clause-distinct g c =
    (let self = c.args.self.now in
    let row = c.items.ensures.items ∙ c.set.ensures.set in
    subst AreDistinct (sym row) (ready_once _ _ _ _ _ _ _ self.runs c.args.position c.requires.least.ready self.lawful))

pub invariant_of-self : goal.invariant_of-self
invariant_of-self g c = record {
  some = c.args.self.now.some;
  lawful = c.args.self.now.lawful;
  runs = (let self = c.args.self.now in
      let filled = with_items_is self.slots c.lend.new.slots (c.lend.auto.slots ∙ c.deref_mut.ensures.len) in
      keeps_same _ _ _ _ _ _ _ _ _ _ _ refl filled refl refl
      (same_slots_keep _ _ _ _ _ _ _ self.runs c.lend.new.slots
      (c.lend.auto.slots ∙ ap length c.deref_mut.ensures.value)
      (λ n. c.in-Err.ensures.same n ∙ ap (λ sl. account_at sl n) c.deref_mut.ensures.value)));
  apart = c.args.self.now.apart;
  room = c.args.self.now.room;
  buffered = (let self = c.args.self.now in
      let job = g.W.Work.job self.origin.value.told in
      let B = free_buffer job self.lanes _ _ _ c.take_at-values.result self.buffered c.requires.lane c.requires.free c.take_at-values.ensures.taken in
      let none = ap length c.in-Err.ensures.emptied in
      let long = c.lend.new.values.ok.0 in
      subst (HasBuffers job self.lanes self.journal.items)
      (sym (c.write_at.ensures ∙ (ap (λ b. set b c.args.lane c.lend.new.values)
      c.take_at-values.ensures.left ∙ set-set self.buffers.items c.args.lane _ c.lend.new.values)))
      (kept_buffers job self.lanes self.journal.items self.buffers.items self.buffered c.args.lane c.lend.new.values (omega (arith, none, long)) (wide_as job _ _ c.lend.ensures.capacity B.1)));
  counted = c.args.self.now.counted;
}

pub returns-in-Err-clause-reads : goal.returns-in-Err-clause-reads
returns-in-Err-clause-reads g c =
    (let K = c.args.self.now.runs in
    let row = c.items.ensures.items ∙ c.set.ensures.set in
    record {
      position = c.args.position;
      least = c.requires.least;
      reads = reads_is _ _ _ (ready_set _ _ _ _ _ _ _ K c.args.position c.requires.least.ready) (subst ReadsAny row c.in-Err.ensures.reads);
    })

pub start-requires : goal.start-requires
start-requires g c =
    let K = c.args.self.now.runs in
    (ready_is _ K.distinct _ _ _ K.of c.args.position).1 c.requires.least.ready

pub overflow_add-self : goal.overflow_add-self
overflow_add-self g c =
    let self = c.args.self.now in
    let job = g.W.Work.job self.origin.value.told in
    let a = granted_count job (at self.origin.value.start) self.journal.items c.args.lane c.args.position c.requires.least.ready in
    let b = self.counted in
    let m = few_held job (Run job (at self.origin.value.start) (self.journal.items ++ record { kind = Grant; lane = c.args.lane; position = c.args.position } ∷ [])) in
    let f = self.room.few in
    omega (arith, a, b, m, f)

pub push_with_room-requires : goal.push_with_room-requires
push_with_room-requires g c =
    let self = c.args.self.now in
    let K = self.runs in
    let event : Event = record { kind = Grant; lane = c.args.lane; position = c.args.position } in
    let R = room_next _ _ _ _ event self.room c.requires.lane (λ t. absurd (cc)) in
    let l = room_left (g.W.Work.job self.origin.value.told) _ _ _ _ event R (legal_push _ _ _ event K.legal (c.requires.least.ready, holds_none _ _ _ K.legal _ c.requires.free)) in
    let e = self.journal.ok.0 in
    omega (arith, l, e)

pub invariant_of-self-2 : goal.invariant_of-self-2
invariant_of-self-2 g c = record {
  some = c.args.self.now.some;
  lawful = c.args.self.now.lawful;
  runs = (let self = c.args.self.now in
      let K = self.runs in
      let row = c.items.ensures.items ∙ c.set.ensures.set in
      let filled = with_items_is self.slots c.lend.new.slots (c.lend.auto.slots ∙ c.deref_mut.ensures.len) in
      keeps_same _ _ _ _ _ _ _ _ _ _ _ c.start.ensures filled refl c.push_with_room.ensures.items
      (grant_keeps _ _ _ _ _ _ _ K c.args.position c.requires.least.ready c.args.lane
      (holds_none _ _ _ K.legal _ c.requires.free) c.lend.new.slots
      (c.lend.auto.slots ∙ ap length c.deref_mut.ensures.value)
      (λ n. c.in_default.ensures.left n ∙ ap₂ (λ s sl. taken_at (write_numbers s) (account_at sl) n) row c.deref_mut.ensures.value)));
  apart = c.args.self.now.apart;
  room = (let self = c.args.self.now in
      room_after _ _ _ _ _ _ (record { kind = Grant; lane = c.args.lane; position = c.args.position }) self.room
      c.requires.lane (λ t. absurd (cc)) c.push_with_room.ensures.items c.push_with_room.ensures.capacity);
  buffered = (let self = c.args.self.now in
      let job = g.W.Work.job self.origin.value.told in
      subst₂ (λ j b. HasBuffers job self.lanes j b) (sym c.push_with_room.ensures.items) (sym c.take_at-values.ensures.left)
      (taken_buffers job self.lanes self.journal.items self.buffers.items self.buffered c.args.lane c.args.position _));
  counted = (let self = c.args.self.now in
      let job = g.W.Work.job self.origin.value.told in
      let a = granted_count job (at self.origin.value.start) self.journal.items c.args.lane c.args.position c.requires.least.ready in
      let b = self.counted in
      let e = ap (λ j. held_count job (Run job (at self.origin.value.start) j)) c.push_with_room.ensures.items in
      omega (arith, a, b, e));
}

pub invariant_of-result : goal.invariant_of-result
invariant_of-result g c =
    let self = c.args.self.now in
    let K = self.runs in
    let position = c.args.position in
    let job = g.W.Work.job self.origin.value.told in
    let start = at self.origin.value.start in
    let ready = c.requires.least.ready in
    let row = c.items.ensures.items ∙ c.set.ensures.set in
    let values = c.lend.new.values in
    let lent : accounts_of values.items
    ≡ map (serial job start position) (keys job position) = lent_right _ _ _ _ _ _ _ K position ready
    c.args.lane (accounts_of values.items)
    (c.in_default.ensures.lent ∙ ap₂ (λ s sl. found s (account_at sl)) row c.deref_mut.ensures.value) in
    let fits = subst (Fits (job.locks position)) (sym lent)
    (turn_fits job start self.table self.lawful
    (is_start job self.origin.value.start self.rest self.table _ _ _ _ K self.apart) position ready.below).0
    in
    let B = free_buffer job self.lanes _ _ _ c.take_at-values.result self.buffered c.requires.lane c.requires.free c.take_at-values.ensures.taken in
    let wide = wide_as job _ _ c.lend.ensures.capacity B.1 in
    record {
      below = subst (λ o. position < (g.W.Work.job o.told).count) (sym c.again.ensures) ready.below;
      lent = subst (λ o. accounts_of values.items ≡ map (serial (g.W.Work.job o.told) (at o.start) position) (keys (g.W.Work.job o.told) position)) (sym c.again.ensures) lent;
      fits = subst (λ o. Fits ((g.W.Work.job o.told).locks position) (accounts_of values.items)) (sym c.again.ensures) fits;
      room = subst (λ o. IsWide (g.W.Work.job o.told) (vec_capacity values)) (sym c.again.ensures) wide;
    }
