use Rattle.std.proofs.Common.{◌≡◌, ◌∙◌, ◌≤◌, ap, sym, subst, length, List, set, rules, arith, true}
use Rattle.std.proofs.lemmas.List.{with_items_is, places, set-get_or, length-set}
use Rattle.std.specs.Vec.{with_items}
use Rattle.data_parts.specs.declared.piece.Piece.{Piece}
use Rattle.data_parts.specs.Parts.{blank_of, is_blank}
use Rattle.data_parts.proofs.PieceLaws.{set_twice}
use Rattle.data_parts.proofs.pieces.Pieces.open.Goals as goal

pub invariant_of-self : goal.invariant_of-self
invariant_of-self c =
    let list : List Piece = c.put_back.new.list in
    let left : List Piece = c.take_at.new.list in
    let piece : Piece = c.take_at.result in
    let kept : length left ≡ length list = ap length c.take_at.ensures.left ∙ length-set list c.args.index (blank_of piece) in
    let sizes : length list ≡ length c.as_mut_slice-list.result.now = ap length c.put_back.ensures ∙ length-set c.as_mut_slice-list.result.now c.self.inside.place c.self.inside.opened in
    let items : (with_items c.self.inside.list left).items ≡ left = with_items_is c.self.inside.list left (search (rules, places)) in
    let same : set left c.args.index (blank_of piece)
    ≡ left = ap (λ (l : List Piece). set l c.args.index (blank_of piece)) c.take_at.ensures.left
    ∙ set_twice list c.args.index (blank_of piece) (blank_of piece) ∙ sym c.take_at.ensures.left in
    let view = ap length c.self.view_is in
    let own = length-set c.self.inside.list.items c.self.inside.place c.self.inside.opened in
    let was = ap length c.as_mut_slice-list.ensures.value in
    let some = c.requires.index in
    subst (λ (l : List Piece). (set l c.args.index (blank_of piece) ≡ l) × (length l ≤ c.args.index → is_blank piece.backing ≡ true)) (sym items) (same, λ past. absurd (omega arith))

pub returns : goal.returns
returns c =
    let list : List Piece = c.put_back.new.list in
    let left : List Piece = c.take_at.new.list in
    let piece : Piece = c.take_at.result in
    let kept : length left ≡ length list = ap length c.take_at.ensures.left ∙ length-set list c.args.index (blank_of piece) in
    let sizes : length list ≡ length c.as_mut_slice-list.result.now = ap length c.put_back.ensures ∙ length-set c.as_mut_slice-list.result.now c.self.inside.place c.self.inside.opened in
    let items : (with_items c.self.inside.list left).items ≡ left = with_items_is c.self.inside.list left (search (rules, places)) in
    let back : set left c.args.index piece
    ≡ list = ap (λ (l : List Piece). set l c.args.index piece) c.take_at.ensures.left
    ∙ set_twice list c.args.index (blank_of piece) piece
    ∙ ap (λ (p : Piece). set list c.args.index p) c.take_at.ensures.taken
    ∙ set-get_or list c.args.index piece in
    let old : list ≡ c.args.self.now = c.put_back.ensures ∙ ap (λ (l : List Piece). set l c.self.inside.place c.self.inside.opened) c.as_mut_slice-list.ensures.value ∙ c.self.view_is in
    ap (λ (l : List Piece). set l c.args.index piece) items ∙ back ∙ old
