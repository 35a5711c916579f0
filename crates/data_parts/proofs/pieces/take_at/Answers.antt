use Rattle.std.proofs.Common.{◌≡◌, ap, sym, length, get_or, arith}
use Rattle.data_parts.specs.declared.piece.Piece.{Piece}
use Rattle.data_parts.specs.Parts.{piece_bytes}
use Rattle.data_parts.proofs.PieceLaws.{piece_bound}
use Rattle.data_parts.proofs.pieces.take_at.Goals as goal

pub overflow_cast-len : goal.overflow_cast-len
overflow_cast-len c =
    let size = c.len.ensures in
    let bound = piece_bound c.args.list.now c.args.index c.index-list-index.result c.requires.index c.index-list-index.is in
    let same : length (piece_bytes (get_or c.args.list.now c.args.index c.index-list-index.result))
    ≡ length (piece_bytes c.index-list-index.result) = ap (λ (p : Piece). length (piece_bytes p))
    (sym c.index-list-index.is) in
    let most = c.requires.most in
    omega arith
