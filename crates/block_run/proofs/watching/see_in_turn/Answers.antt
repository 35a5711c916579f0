use Rattle.std.proofs.Common.{All, List, ◌+◌, ◌-◌, ◌*◌, ◌<◌, length, sym, ap, subst, ◌∙◌}
use Rattle.account_store.specs.State.{at}
use Rattle.bank_law.specs.declared.event.EventKind.TheVariants.{Commit}
use Rattle.bank_law.specs.History.{holds, own}
use Rattle.bank_law.specs.Machine.{with_event}
use Rattle.tx_exec.specs.AdmittedBlock.{job_of}
use Rattle.block_lanes.proofs.Turns.{fewer_turns, lent_holds, stays_alone}
use Rattle.bank_core.specs.Effects.{effects_seen}
use Rattle.sol_base.specs.Accounts.{accounts_of}
use Rattle.block_run.specs.Watching.{IsSerial, wants}
use Rattle.block_run.specs.declared.watching.Seen.{Seen}
use Rattle.block_run.proofs.SeenSerial.{came, seen_kept}
use Rattle.block_run.proofs.watching.see_in_turn.Goals as goal

pub commit-requires-clause-held : goal.commit-requires-clause-held
commit-requires-clause-held g c =
    ap (λ lane. holds (own c.take.new.self.journal.items lane)) c.in-Loan.ensures.take.0
    ∙ lent_holds c.turns.core.journal.items c.take.new.self.journal.items c.in-Loan.loan.position c.turns.invariant.alone c.in-Loan.ensures.journal

pub give_back-requires-clause-held : goal.give_back-requires-clause-held
give_back-requires-clause-held g c =
    ap (λ lane. holds (own c.take.new.self.journal.items lane)) c.in-Loan.ensures.take.0
    ∙ lent_holds c.turns.core.journal.items c.take.new.self.journal.items c.in-Loan.loan.position c.turns.invariant.alone c.in-Loan.ensures.journal

pub turns-smaller : goal.turns-smaller
turns-smaller g c =
    let lent = c.take.new.self.journal.items in
    let position = c.in-Loan.loan.position in
    let origin = c.commit.ensures.origin ∙ c.in-Loan.ensures.origin in
    let commit = c.commit.ensures.journal ∙ ap (λ lane. with_event lent Commit lane position) c.in-Loan.ensures.take.0 in
    subst (λ o. 2 * (job_of o.told).count + 1 - length c.commit.new.self.journal.items < 2 *
    (job_of c.turns.core.origin.value.told).count + 1 - length c.turns.core.journal.items)
    (sym origin)
    (fewer_turns c.turns.core.journal.items lent position c.turns.invariant.alone c.in-Loan.ensures.journal c.commit.new.self.journal.items commit
    (job_of c.turns.core.origin.value.told) (at c.turns.core.origin.value.start) c.in-Loan.ensures.legal)

pub returns-then-eq : goal.returns-then-eq
returns-then-eq g c =
    subst (λ (all : List Seen). All (IsSerial (job_of c.args.work.now.told) (at c.args.core.now.origin.value.start)) all)
    (sym c.in-Ok.ensures.seen)
    (seen_kept (job_of c.args.work.now.told) (at c.args.core.now.origin.value.start) (wants c.args.wanted c.position-position.result)
    c.position-position.result c.in-Ok.effects.outcome c.turns.seen c.turns.invariant.serial
    (came c.args.core.now.origin.value c.in-Loan.loan.origin.value c.args.work.now.told (effects_seen c.in-Ok.effects)
    c.position-position.result c.in-Loan.loan.position (accounts_of c.values.result.now)
    (c.in-Loan.ensures.take.1 ∙ c.turns.invariant.origin) c.requires.told c.position-position.ensures c.in-Ok.ensures.effects
    (ap accounts_of c.values.ensures ∙ c.in-Loan.loan.lent)))

pub turns-preserved : goal.turns-preserved
turns-preserved g c =
    let i = c.turns.invariant in
    let lent = c.take.new.self.journal.items in
    let position = c.in-Loan.loan.position in
    let commit = c.commit.ensures.journal ∙ ap (λ lane. with_event lent Commit lane position) c.in-Loan.ensures.take.0 in
    record {
      origin = c.commit.ensures.origin ∙ (c.in-Loan.ensures.origin ∙ i.origin);
      one = c.commit.ensures.lanes ∙ (c.in-Loan.ensures.lanes ∙ i.one);
      alone = stays_alone c.turns.core.journal.items lent position i.alone c.in-Loan.ensures.journal c.commit.new.self.journal.items commit;
      serial = subst (λ (all : List Seen). All (IsSerial (job_of c.args.work.now.told) (at c.args.core.now.origin.value.start)) all)
          (sym c.in-Ok.ensures.seen)
          (seen_kept (job_of c.args.work.now.told) (at c.args.core.now.origin.value.start) (wants c.args.wanted c.position-position.result)
          c.position-position.result c.in-Ok.effects.outcome c.turns.seen c.turns.invariant.serial
          (came c.args.core.now.origin.value c.in-Loan.loan.origin.value c.args.work.now.told (effects_seen c.in-Ok.effects)
          c.position-position.result c.in-Loan.loan.position (accounts_of c.values.result.now)
          (c.in-Loan.ensures.take.1 ∙ c.turns.invariant.origin) c.requires.told c.position-position.ensures c.in-Ok.ensures.effects
          (ap accounts_of c.values.ensures ∙ c.in-Loan.loan.lent)));
    }
