use Rattle.std.proofs.Common.{map, ap, ◌∙◌}
use Rattle.std.proofs.lemmas.List.{take_all}
use Rattle.json_parts.proofs.fault.owned.Goals as goal

pub returns : goal.returns
returns c = c.loop-name.invariant
    ∙ ap (map (λ n. n.now)) (take_all c.loop-name.name-index c.args.names.now c.loop-name-test.false)
