use Rattle.std.proofs.Common.{leb, arith, rules}
use Rattle.std.proofs.lemmas.List.Sorted.{IsPartitionPoint-from_clause, IsPartitionedBy-leb}
use Rattle.data_parts.specs.declared.piece.Piece.{Piece}
use Rattle.data_parts.proofs.PartLaws.{IsPlaceOf, piece_of_place, starts_rise}
use Rattle.data_parts.proofs.range.find.Goals as goal

place : (c : goal.After-partition_point) → IsPlaceOf c.args.pieces.now c.args.at c.partition_point.result
place c =
    let parted = IsPartitionedBy-leb (λ (piece : Piece). piece.start) c.args.pieces.now c.args.at (starts_rise c.args.pieces.now c.requires.order) in
    let point = IsPartitionPoint-from_clause (λ (piece : Piece). leb piece.start c.args.at) _ _ c.partition_point.ensures.partitioned parted (λ a r q k. search rules) in
    piece_of_place c.args.pieces.now c.args.at c.partition_point.result c.requires.order c.requires.within c.partition_point.ensures.bound point

pub overflow_sub-result : goal.overflow_sub-result
overflow_sub-result c = (place c).some

pub returns-clause-piece : goal.returns-clause-piece
returns-clause-piece c =
    let some = (place c).some in
    let bound = c.partition_point.ensures.bound in
    omega arith

pub returns-clause-first : goal.returns-clause-first
returns-clause-first c = (place c).first

pub returns-clause-last : goal.returns-clause-last
returns-clause-last c = (place c).last
