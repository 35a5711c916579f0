use Rattle.std.proofs.Common.{◌∙◌, rules}
use Rattle.std.proofs.lemmas.Iterator.{YieldsList-from_map, YieldsList-from_slice, items_from_collect}
use Rattle.std.proofs.lemmas.Result.{IfOk-at_ok}
use Rattle.intake.specs.Gathering.{arrival_of}
use Rattle.intake.proofs.gathering.arrivals_of.Goals as goal

pub returns : goal.returns
returns c =
    c.from_vec.ensures ∙ IfOk-at_ok _ c.in_ok-arrivals.was
    (items_from_collect _ c.collect.ensures.ran
    (YieldsList-from_map _ arrival_of (YieldsList-from_slice c.args.tickets.now cc) c.map.ensures.closure
    (λ x r q k. search rules)))
