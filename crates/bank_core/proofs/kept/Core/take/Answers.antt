use Rattle.std.proofs.Common.{arith, sym, subst, ◌∙◌}
use Rattle.account_store.specs.State.{at}
use Rattle.bank_law.specs.Machine.{Run, IsLeastReady}
use Rattle.prio_graph.proofs.MachineLaws.{ready_is}
use Rattle.bank_law.proofs.Held.{none_left}
use Rattle.bank_core.proofs.Moves.{someone_holds}
use Rattle.bank_core.proofs.kept.Core.take.Goals as goal

pub grant-requires-clause-least : goal.grant-requires-clause-least
grant-requires-clause-least g c =
    let K = c.args.self.now.runs in
    let least = c.in-Some.ensures.least in
    record {
      ready = (ready_is _ K.distinct _ _ _ K.of c.in-Some.position).0 least.ready;
      least = λ j l r. least.least j l ((ready_is _ K.distinct _ _ _ K.of j).1 r);
    }

pub returns-in-Ok-clause-take : goal.returns-in-Ok-clause-take
returns-in-Ok-clause-take g c =
    let self = c.args.self.now in
    let K = self.runs in
    let least = c.in-Some.ensures.least in
    let loan = c.in-Ok.ensures.loan in (
      loan.0,
      loan.2,
      subst (IsLeastReady (g.W.Work.job self.origin.value.told) (Run (g.W.Work.job self.origin.value.told) (at self.origin.value.start) self.journal.items)) (sym loan.1) (record {
        ready = (ready_is _ K.distinct _ _ _ K.of c.in-Some.position).0 least.ready;
        least = λ j l r. least.least j l ((ready_is _ K.distinct _ _ _ K.of j).1 r);
      }),
    )

pub returns-in-None-clause-take : goal.returns-in-None-clause-take
returns-in-None-clause-take g c =
    let self = c.args.self.now in
    let K = self.runs in
    λ j l. none_left _ _ _ K.legal (λ i r. c.in-None.ensures.none i ((ready_is _ K.distinct _ _ _ K.of i).1 r)) (sym self.counted ∙ c.if-self-eq0.true) j l

pub returns-in-None-2-clause-take : goal.returns-in-None-2-clause-take
returns-in-None-2-clause-take g c =
    let self = c.args.self.now in
    let K = self.runs in
    record {
      none_ready = λ i r. c.in-None-2.ensures.none i ((ready_is _ K.distinct _ _ _ K.of i).1 r);
      held_is = self.counted;
      some = let n = c.if-self-eq0.false in omega (arith, n);
    }

pub returns-in-None-2-clause-others : goal.returns-in-None-2-clause-others
returns-in-None-2-clause-others g c =
    let self = c.args.self.now in
    someone_holds _ _ _ _ _ self.runs.legal self.room (let n = c.if-self-eq0.false in let e = self.counted in omega (arith, n, e))
