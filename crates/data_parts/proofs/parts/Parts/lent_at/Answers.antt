use Rattle.std.proofs.Common.{◌≡◌, ◌∙◌, true, ap, sym, subst, List, ℕ, Some, slice_get, arith}
use Rattle.std.proofs.lemmas.Option.{IfSome_then}
use Rattle.std.specs.Arc.{arc_value}
use Rattle.sol_base.specs.declared.account.Account.{Account}
use Rattle.data_parts.specs.Parts.{tests_in, bytes_in, backing_bytes, is_prepared, Content, DataStandAt, IsLentAt}
use Rattle.data_parts.proofs.PartLaws.{data_there, item_end, item_lent, passes_at}
use Rattle.data_parts.proofs.parts.Parts.lent_at.Goals as goal

pub returns-then-piece-at-clause-bytes : goal.returns-then-piece-at-clause-bytes
returns-then-piece-at-clause-bytes c =
    IfSome_then c.lent.result c.lent.ensures.shared (λ lent same.
    let there : DataStandAt (arc_value lent.now) (bytes_in c.self.inside.pieces) c.args.at = data_there
    c.self.inside.pieces c.find_from.result c.args.at c.at-piece.result.now (arc_value lent.now)
    c.self.invariant.0 c.find_from.ensures.piece c.at-piece.ensures c.if-piece-at.true
    (sym (ap backing_bytes same)) in
    subst (λ (list : List ℕ). DataStandAt (arc_value lent.now) list c.args.at) (ap (λ (content : Content). content.bytes) c.self.view_is) there)

pub returns-then-piece-at-clause-account : goal.returns-then-piece-at-clause-account
returns-then-piece-at-clause-account c =
    IfSome_then c.lent.result c.lent.ensures.shared (λ lent same.
    let pieces = c.self.inside.pieces in
    let end = item_end pieces c.find_from.result c.at-piece.result.now c.find_from.ensures.piece c.at-piece.ensures in
    let first = c.find_from.ensures.first in
    let last = c.find_from.ensures.last in
    let there : IsLentAt c.self.inside.lent.value c.at-piece.result.now.start (arc_value lent.now) = item_lent
    c.self.inside.lent.value pieces c.find_from.result c.at-piece.result.now c.self.invariant.1
    c.find_from.ensures.piece c.at-piece.ensures lent.now same (omega arith) in
    subst (λ (place : ℕ). IsLentAt c.args.self.now.lent place (arc_value lent.now)) c.if-piece-at.true
    (subst (λ (list : List (ℕ × Account)). IsLentAt list c.at-piece.result.now.start (arc_value lent.now))
    (ap (λ (content : Content). content.lent) c.self.view_is) there))

pub returns-then-piece-at-clause-own : goal.returns-then-piece-at-clause-own
returns-then-piece-at-clause-own c = λ prepared.
    let same : slice_get (tests_in is_prepared c.self.inside.pieces) c.args.at ≡ Some true = ap (λ (content : Content). slice_get content.prepared c.args.at) c.self.view_is ∙ prepared in
    c.lent.ensures.own (passes_at is_prepared c.self.inside.pieces c.find_from.result c.args.at
    c.at-piece.result.now c.find_from.ensures.piece c.at-piece.ensures c.find_from.ensures.first
    c.find_from.ensures.last same)
