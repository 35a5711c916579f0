use Rattle.std.proofs.Common.{◌≡◌, Some, rules}
use Rattle.bank_lanes.specs.Seats.{HasPerformed}
use Rattle.bank_lanes.specs.Gates.{IsBehind}
use Rattle.bank_law.specs.declared.event.EventKind.TheVariants.{Return}
use Rattle.bank_lanes.proofs.SeatSteps.{seat_grew, seat_committed, seat_returned, commits_its, one_new}
use Rattle.bank_lanes.proofs.waves.settle.Goals as goal

pub returns-in-Some-Some-clause-seat : goal.returns-in-Some-Some-clause-seat
returns-in-Some-Some-clause-seat g c =
    let has : c.args.seat.now.loan ≡ Some c.in-Some-Some.loan = first_of (cc, search rules) in
    seat_committed c.args.seat.now _ c.args.core.now.origin.value c.commit.new.self.origin.value c.args.core.now.journal.items c.commit.new.self.journal.items c.args.lane c.in-Some-Some.loan
    c.commit.ensures.journal has (search rules) (search rules) (search rules) c.requires.seat

pub returns-in-Some-None-clause-grew : goal.returns-in-Some-None-clause-grew
returns-in-Some-None-clause-grew g c =
    let has : c.args.seat.now.loan ≡ Some c.in-Some-None.loan = first_of (cc, search rules) in
    (seat_grew c.args.seat.now c.args.core.now.origin.value c.args.core.now.journal.items c.give_back.new.self.journal.items Return c.args.lane c.in-Some-None.loan
    c.give_back.ensures.journal has c.requires.seat).1

pub returns-in-Some-None-clause-seat : goal.returns-in-Some-None-clause-seat
returns-in-Some-None-clause-seat g c =
    let has : c.args.seat.now.loan ≡ Some c.in-Some-None.loan = first_of (cc, search rules) in
    seat_returned c.args.seat.now _ c.args.core.now.origin.value c.give_back.new.self.origin.value c.args.core.now.journal.items c.give_back.new.self.journal.items c.args.lane c.in-Some-None.loan
    c.give_back.ensures.journal has (search rules) (search rules) (search rules) c.requires.seat

pub returns-in-Some-Some-clause-commits : goal.returns-in-Some-Some-clause-commits
returns-in-Some-Some-clause-commits g c =
    let has : c.args.seat.now.loan ≡ Some c.in-Some-Some.loan = first_of (cc, search rules) in
    let gave : c.args.seat.now.effects ≡ Some c.in-Some-Some.effects = first_of (cc, search rules) in
    commits_its c.args.seat.now c.args.core.now.origin.value c.args.core.now.journal.items c.commit.new.self.journal.items c.args.lane c.in-Some-Some.loan c.in-Some-Some.effects
    c.commit.ensures.journal has gave c.requires.seat

pub returns-in-Some-None-clause-commits : goal.returns-in-Some-None-clause-commits
returns-in-Some-None-clause-commits g c =
    one_new (IsBehind (λ l position. (l ≡ c.args.lane) × HasPerformed position c.args.seat.now))
    c.args.core.now.journal.items c.give_back.new.self.journal.items _ c.give_back.ensures.journal
    (λ e. absurd (cc))
