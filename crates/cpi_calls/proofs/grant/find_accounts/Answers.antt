use Rattle.std.proofs.Common.{◌∙◌, refl}
use Rattle.std.proofs.lemmas.List.{take_all}
use Rattle.cpi_calls.specs.Rights.{is_missing}
use Rattle.cpi_calls.proofs.Grants.{position-none, found-more, missing-at, present-at}
use Rattle.cpi_calls.proofs.grant.find_accounts.Goals as goal

pub returns-in-None : goal.returns-in-None
returns-in-None c =
    let g = c.loop-i.invariant.same ∙ missing-at c.args.keys.now c.args.caller.now c.args.asked.now c.loop-i.i _ c.loop-i-test.true c.in-None.ensures in
    rw g refl

pub loop-i-preserved : goal.loop-i-preserved
loop-i-preserved c = record {
  same = c.loop-i.invariant.same ∙ present-at c.args.keys.now c.args.caller.now c.args.asked.now c.loop-i.i _ c.in-Some.index c.loop-i-test.true c.in-Some.ensures;
  found = rw c.in_ok-push-in-Some.ensures.ok
      (found-more c.args.keys.now c.args.caller.now c.args.asked.now c.loop-i.metas c.loop-i.i _ c.in-Some.index
      c.loop-i-test.true c.loop-i.invariant.found c.in-Some.ensures);
}

pub returns : goal.returns
returns c =
    let g = c.loop-i.invariant.same ∙ position-none (is_missing c.args.keys.now c.args.caller.now) c.args.asked.now c.loop-i.i c.loop-i-test.false in
    rw (g, c.loop-i.invariant.found, take_all c.loop-i.i c.args.asked.now c.loop-i-test.false) refl
