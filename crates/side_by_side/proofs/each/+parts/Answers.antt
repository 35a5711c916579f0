use Rattle.side_by_side.proofs.Parts.{accepts_rest, changes_both}
use Rattle.side_by_side.proofs.each.+parts.Goals as goal

pub start_from-start_part-requires-clause-rest : goal.start_from-start_part-requires-clause-rest
start_from-start_part-requires-clause-rest g t c κs within =
    let cut = c.split_at_mut-part in
    accepts_rest g.F.Fn c.args.f.now c.args.base c.part_of-count.result c.args.list.now cut.result.0.now cut.result.1.now cut.ensures.value cut.ensures.front_len c.requires.accepts

pub start_from-returns : goal.start_from-returns
start_from-returns g t c =
    let cut = c.split_at_mut-part in
    changes_both g.F.Fn c.args.f.now c.args.base c.part_of-count.result c.args.list.now cut.result.0.now
    cut.result.1.now cut.ensures.value cut.ensures.front_len _ _ c.start_part.ensures.part
    c.start_part.ensures.rest
