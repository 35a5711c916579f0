use Rattle.std.proofs.Common.{◌≡◌, refl}
use Rattle.bank_law.specs.declared.event.EventKind.TheVariants.{Grant}
use Rattle.bank_core.specs.Origins.{state_after}
use Rattle.bank_lanes.proofs.Lends.{reads_not_now, reads_done, reads_least}
use Rattle.bank_lanes.proofs.SeatSteps.{seat_lent, one_new}
use Rattle.bank_lanes.proofs.waves.lend_to.Goals as goal

pub returns-in-Loan-clause-seat : goal.returns-in-Loan-clause-seat
returns-in-Loan-clause-seat g c =
    seat_lent c.args.seat.now c.hold.new.self c.args.core.now.origin.value c.take.new.self.origin.value c.args.core.now.journal.items c.take.new.self.journal.items c.args.lane c.in-Loan.loan
    c.in-Loan.ensures.origin c.in-Loan.ensures.journal c.in-Loan.ensures.take.0 c.in-Loan.ensures.take.1 c.requires.here c.hold.ensures c.requires.seat

pub returns-in-Loan-clause-grants : goal.returns-in-Loan-clause-grants
returns-in-Loan-clause-grants g c = one_new (λ event. event.kind ≡ Grant) c.args.core.now.journal.items c.take.new.self.journal.items _ c.in-Loan.ensures.journal refl

pub returns-in-NotNow-clause-none : goal.returns-in-NotNow-clause-none
returns-in-NotNow-clause-none g c = λ e.
    let origin = c.args.core.now.origin.value in
    let journal = c.args.core.now.journal.items in
    record {
      empty = c.requires.empty;
      same = c.in-NotNow.ensures.journal;
      reads = reads_not_now (g.W.Work.job origin.told) (state_after g.W.Work.job origin journal) c.in-NotNow.held c.in-NotNow.ensures.take;
    }

pub returns-in-Finished-clause-none : goal.returns-in-Finished-clause-none
returns-in-Finished-clause-none g c = λ e.
    let origin = c.args.core.now.origin.value in
    let journal = c.args.core.now.journal.items in
    record {
      empty = c.requires.empty;
      same = c.in-Finished.ensures.journal;
      reads = reads_done (g.W.Work.job origin.told) (state_after g.W.Work.job origin journal) c.in-Finished.ensures.take;
    }

pub returns-in-OutOfMemory-clause-none : goal.returns-in-OutOfMemory-clause-none
returns-in-OutOfMemory-clause-none g c = λ e.
    let origin = c.args.core.now.origin.value in
    let journal = c.args.core.now.journal.items in
    record {
      empty = c.requires.empty;
      same = c.in-OutOfMemory.ensures.journal;
      reads = reads_least (g.W.Work.job origin.told) (state_after g.W.Work.job origin journal) c.in-OutOfMemory.ensures.take;
    }
