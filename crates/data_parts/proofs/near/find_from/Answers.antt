use Rattle.std.proofs.Common.{◌<◌, ◌+◌, length, arith}
use Rattle.data_parts.proofs.PartLaws.{start_at}
use Rattle.data_parts.proofs.near.find_from.Goals as goal

pub loop-index-init : goal.loop-index-init
loop-index-init c =
    let some : c.args.near < length c.args.pieces.now = omega arith in
    let start = start_at c.args.pieces.now c.args.near c.index-pieces-near.result c.requires.order some in
    record { some = some; first = omega arith }

pub loop-index-preserved : goal.loop-index-preserved
loop-index-preserved c =
    let some : c.loop-index.index + 1 < length c.args.pieces.now = omega arith in
    let start = start_at c.args.pieces.now (c.loop-index.index + 1) c.index-pieces-index.result c.requires.order some in
    record { some = some; first = omega arith }

pub returns-else-pieces-index-clause-last : goal.returns-else-pieces-index-clause-last
returns-else-pieces-index-clause-last c =
    let some : c.loop-index.index + 1 < length c.args.pieces.now = omega arith in
    let start = start_at c.args.pieces.now (c.loop-index.index + 1) c.index-pieces-index.result c.requires.order some in
    omega arith
