use Rattle.std.proofs.Common.{◌<◌, length, get_or, refl, ap, ◌∙◌, arith, rules, length-append}
use base.Growing.{prefix_refl}
use Rattle.std.proofs.lemmas.Grind.{common_steps}
use Rattle.account_store.specs.State.{at}
use Rattle.bank_law.specs.declared.event.EventKind.TheVariants.{Grant}
use Rattle.bank_law.specs.History.{own, holds}
use Rattle.bank_lanes.proofs.Rests.{holds_none, own_returns, nothing_held, journal_most, prefix_length}
use Rattle.bank_lanes.proofs.SeatSteps.{all_hold_none, grew_by, new_seats, seat_lent, seats_set, seats_same, set_length, behind_wave}
use Rattle.bank_lanes.proofs.waves.run_seats.Goals as goal

pub waves-init : goal.waves-init
waves-init g c =
    let core = c.args.core.now in
    record {
      origin = refl;
      lanes = refl;
      behind = λ behind. behind;
      longer = prefix_refl core.journal.items;
      seats = new_seats c.args.seats.now core.origin.value core.journal.items c.requires.new
          (λ lane. holds_none (g.W.Work.job core.origin.value.told) (at core.origin.value.start) core.journal.items core.runs.legal c.requires.free lane)
          (λ lane. let a = own_returns core.journal.items lane in omega (arith, a, c.requires.none_back));
      empty = λ k d l. (c.requires.new k d l).empty;
      first = λ d. (c.requires.new 0 d (omega arith)).kept;
    }

pub take-requires-clause-free : goal.take-requires-clause-free
take-requires-clause-free g c =
    all_hold_none c.waves.seats c.waves.core.origin.value c.waves.core.journal.items c.waves.invariant.seats c.waves.invariant.empty 0 (omega arith)

pub unreachable-requires : goal.unreachable-requires
unreachable-requires g c =
    let some = c.in-NotNow.ensures.others in
    let none = all_hold_none c.waves.seats c.waves.core.origin.value c.waves.core.journal.items c.waves.invariant.seats c.waves.invariant.empty some.lane (omega arith) in
    let held = some.is_held in
    absurd (cc)

pub returns-in-Finished-clause-free : goal.returns-in-Finished-clause-free
returns-in-Finished-clause-free g c =
    let next = c.take.new.self in
    nothing_held (g.W.Work.job next.origin.value.told) (at next.origin.value.start) next.journal.items next.lanes next.runs.legal next.room.lanes_below
    (λ lane l. ap (λ j. holds (own j lane)) c.in-Finished.ensures.journal
    ∙ all_hold_none c.waves.seats c.waves.core.origin.value c.waves.core.journal.items
    c.waves.invariant.seats c.waves.invariant.empty lane (omega (arith, l, c.in-Finished.ensures.lanes)))

pub returns-in-OutOfMemory-clause-free : goal.returns-in-OutOfMemory-clause-free
returns-in-OutOfMemory-clause-free g c =
    let next = c.take.new.self in
    nothing_held (g.W.Work.job next.origin.value.told) (at next.origin.value.start) next.journal.items next.lanes next.runs.legal next.room.lanes_below
    (λ lane l. ap (λ j. holds (own j lane)) c.in-OutOfMemory.ensures.journal
    ∙ all_hold_none c.waves.seats c.waves.core.origin.value c.waves.core.journal.items
    c.waves.invariant.seats c.waves.invariant.empty lane (omega (arith, l, c.in-OutOfMemory.ensures.lanes)))

pub lend_to_others-requires-clause-seats : goal.lend_to_others-requires-clause-seats
lend_to_others-requires-clause-seats g c =
    let i = c.waves.invariant in
    let d = c.index-seats-0.result in
    let seat = get_or c.waves.seats 0 d in
    let within : 0 < length c.waves.seats = omega arith in
    let old = c.waves.core in
    let next = c.take.new.self in
    let here = i.seats 0 d within in
    let mark = i.first d in
    let lent = seat_lent seat c.hold.new.self old.origin.value next.origin.value old.journal.items next.journal.items 0 c.in-Loan.loan
    c.in-Loan.ensures.origin c.in-Loan.ensures.journal c.in-Loan.ensures.take.0 c.in-Loan.ensures.take.1 mark c.hold.ensures here in
    seats_set c.waves.seats old.origin.value next.origin.value old.journal.items next.journal.items 0 c.hold.new.self within
    c.in-Loan.ensures.origin (grew_by old.journal.items next.journal.items Grant 0 c.in-Loan.loan.position c.in-Loan.ensures.journal) i.seats lent

pub settle_all-requires-clause-seats : goal.settle_all-requires-clause-seats
settle_all-requires-clause-seats g c =
    seats_same c.lend_to_others.new.seats c.perform_all.new.seats c.lend_to_others.new.core.origin.value
    c.lend_to_others.new.core.journal.items c.perform_all.ensures.same c.lend_to_others.ensures.seats

pub returns-then-seats-offset0-clause-free : goal.returns-then-seats-offset0-clause-free
returns-then-seats-offset0-clause-free g c =
    let next = c.settle_all.new.core in
    nothing_held (g.W.Work.job next.origin.value.told) (at next.origin.value.start) next.journal.items next.lanes next.runs.legal next.room.lanes_below
    (λ lane l. all_hold_none c.settle_all.new.seats next.origin.value next.journal.items c.settle_all.ensures.seats c.settle_all.ensures.empty lane
    (let n = set_length c.waves.seats 0 c.hold.new.self in omega (arith, l, n, c.settle_all.ensures.lanes, c.lend_to_others.ensures.lanes, c.in-Loan.ensures.lanes)))

pub returns-then-seats-offset0-clause-behind : goal.returns-then-seats-offset0-clause-behind
returns-then-seats-offset0-clause-behind g c = λ behind.
    let old = c.waves.core in
    let next = c.take.new.self in
    let lent = c.lend_to_others.new.core in
    behind_wave (g.G.Gate.is_passed c.args.gate.now) (g.W.Work.job (g.W.Work.told c.args.work.now))
    c.perform_all.new.seats lent.origin.value old.journal.items next.journal.items lent.journal.items
    c.settle_all.new.core.journal.items 0 c.in-Loan.loan.position
    c.in-Loan.ensures.journal c.lend_to_others.ensures.longer c.lend_to_others.ensures.grants c.settle_all.ensures.longer c.settle_all.ensures.commits
    (seats_same c.lend_to_others.new.seats c.perform_all.new.seats lent.origin.value lent.journal.items c.perform_all.ensures.same c.lend_to_others.ensures.seats)
    c.perform_all.ensures.done (c.waves.invariant.behind behind)

pub waves-preserved : goal.waves-preserved
waves-preserved g c = record {
  origin = search rules;
  lanes = search rules;
  behind = λ behind.
      let old = c.waves.core in
      let next = c.take.new.self in
      let lent = c.lend_to_others.new.core in
      behind_wave (g.G.Gate.is_passed c.args.gate.now) (g.W.Work.job (g.W.Work.told c.args.work.now))
      c.perform_all.new.seats lent.origin.value old.journal.items next.journal.items lent.journal.items
      c.settle_all.new.core.journal.items 0 c.in-Loan.loan.position
      c.in-Loan.ensures.journal c.lend_to_others.ensures.longer c.lend_to_others.ensures.grants c.settle_all.ensures.longer c.settle_all.ensures.commits
      (seats_same c.lend_to_others.new.seats c.perform_all.new.seats lent.origin.value lent.journal.items c.perform_all.ensures.same c.lend_to_others.ensures.seats)
      c.perform_all.ensures.done (c.waves.invariant.behind behind);
  longer = grind (arith, common_steps);
  seats = search rules;
  empty = search rules;
  first = grind (arith, common_steps);
}

pub waves-smaller : goal.waves-smaller
waves-smaller g c =
    let next = c.settle_all.new.core in
    let most = journal_most (g.W.Work.job next.origin.value.told) (at next.origin.value.start) next.journal.items next.lanes next.runs.legal next.room.lanes_below next.room.once in
    let a = prefix_length c.lend_to_others.new.core.journal.items next.journal.items c.settle_all.ensures.longer in
    let b = prefix_length c.take.new.self.journal.items c.lend_to_others.new.core.journal.items c.lend_to_others.ensures.longer in
    let one = ap length c.in-Loan.ensures.journal ∙ length-append c.waves.core.journal.items _ in
    let same = ap (λ o. (g.W.Work.job o.told).count) (c.settle_all.ensures.origin ∙ (c.lend_to_others.ensures.origin ∙ c.in-Loan.ensures.origin)) in
    let lanes = c.settle_all.ensures.lanes ∙ (c.lend_to_others.ensures.lanes ∙ c.in-Loan.ensures.lanes) in
    omega (arith, most, a, b, one, same, lanes)
