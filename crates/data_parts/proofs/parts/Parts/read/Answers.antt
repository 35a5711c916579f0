use Rattle.std.proofs.Common.{◌∙◌, ap, take, drop, length, arith}
use Rattle.data_parts.specs.Parts.{Content}
use Rattle.data_parts.proofs.PartLaws.{item_start, read_there}
use Rattle.data_parts.proofs.parts.Parts.read.Goals as goal

pub overflow_sub-from : goal.overflow_sub-from
overflow_sub-from c =
    let start = item_start c.self.inside.pieces c.find_from-first.result c.at-piece.result.now c.self.invariant.0 c.find_from-first.ensures.piece c.at-piece.ensures in
    omega arith

pub returns-then-from-into : goal.returns-then-from-into
returns-then-from-into c =
    let size = c.len.ensures in
    let there = read_there c.self.inside.pieces c.find_from-first.result c.args.at (length c.args.into.now)
    c.at-piece.result.now c.self.invariant.0 c.find_from-first.ensures.piece c.at-piece.ensures
    c.find_from-first.ensures.first (omega arith) in
    c.read.ensures ∙ there ∙ ap (λ (content : Content). take (length c.args.into.now) (drop c.args.at content.bytes)) c.self.view_is
