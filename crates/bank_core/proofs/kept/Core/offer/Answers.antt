use Rattle.std.proofs.Common.{arith, sym, ◌∙◌}
use Rattle.prio_graph.proofs.MachineLaws.{ready_is}
use Rattle.bank_law.proofs.Held.{none_left}
use Rattle.bank_core.proofs.kept.Core.offer.Goals as goal

pub returns-in-Some : goal.returns-in-Some
returns-in-Some g c =
    let K = c.args.self.now.runs in
    let least = c.in-Some.ensures.least in (
      c.in-Some.field-0,
      record {
        ready = (ready_is _ K.distinct _ _ _ K.of c.in-Some.field-0).0 least.ready;
        least = λ j l r. least.least j l ((ready_is _ K.distinct _ _ _ K.of j).1 r);
      },
    )

pub returns-in-None : goal.returns-in-None
returns-in-None g c =
    let self = c.args.self.now in
    let K = self.runs in
    λ j l. none_left _ _ _ K.legal (λ i r. c.in-None.ensures.none i ((ready_is _ K.distinct _ _ _ K.of i).1 r)) (sym self.counted ∙ c.if-self-eq0.true) j l

pub returns-in-None-2 : goal.returns-in-None-2
returns-in-None-2 g c =
    let self = c.args.self.now in
    let K = self.runs in
    record {
      none_ready = λ i r. c.in-None-2.ensures.none i ((ready_is _ K.distinct _ _ _ K.of i).1 r);
      held_is = self.counted;
      some = let n = c.if-self-eq0.false in omega (arith, n);
    }
