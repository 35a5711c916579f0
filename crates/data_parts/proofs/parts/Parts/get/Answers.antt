use Rattle.std.proofs.Common.{◌∙◌, ap, get_or, arith}
use Rattle.data_parts.specs.Parts.{Content}
use Rattle.data_parts.proofs.PartLaws.{item_start, item_end, get_there}
use Rattle.data_parts.proofs.parts.Parts.get.Goals as goal

pub overflow_sub-at : goal.overflow_sub-at
overflow_sub-at c =
    let start = item_start c.self.inside.pieces c.find_from.result c.at-piece.result.now c.self.invariant.0 c.find_from.ensures.piece c.at-piece.ensures in
    omega arith

pub get-requires : goal.get-requires
get-requires c =
    let start = item_start c.self.inside.pieces c.find_from.result c.at-piece.result.now c.self.invariant.0 c.find_from.ensures.piece c.at-piece.ensures in
    let end = item_end c.self.inside.pieces c.find_from.result c.at-piece.result.now c.find_from.ensures.piece c.at-piece.ensures in
    omega arith

pub returns : goal.returns
returns c =
    let there = get_there c.self.inside.pieces c.find_from.result c.args.at c.at-piece.result.now
    c.self.invariant.0 c.find_from.ensures.piece c.at-piece.ensures c.find_from.ensures.first
    c.find_from.ensures.last in
    c.get.ensures ∙ there ∙ ap (λ (content : Content). get_or content.bytes c.args.at 0) c.self.view_is
