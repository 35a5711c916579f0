use Rattle.std.proofs.Common.{◌≡◌, ap, ◌∙◌, length, arith}
use Rattle.std.proofs.lemmas.Result.{IfOk-weaker}
use Rattle.data_parts.specs.Parts.{bytes_of, lent_from, unprepared}
use Rattle.abi_input.specs.Drafts.{Drafted}
use Rattle.abi_input.proofs.Drafts.{closed, closed_lent}
use Rattle.abi_input.proofs.draft.Draft.finish.Goals as goal

pub from_items-requires : goal.from_items-requires
from_items-requires c =
    let all : bytes_of c.push.new.self ≡ c.args.self.bytes = closed _ _ _ c.in_ok-push.ensures.ok ∙ ap (λ (d : Drafted). d.bytes) c.self.view_is in
    omega (arith, ap length all)

pub returns : goal.returns
returns c =
    let all : bytes_of c.push.new.self ≡ c.args.self.bytes = closed _ _ _ c.in_ok-push.ensures.ok ∙ ap (λ (d : Drafted). d.bytes) c.self.view_is in
    let lent : lent_from 0 c.push.new.self ≡ c.args.self.lent = closed_lent _ _ _ c.in_ok-push.ensures.ok ∙ ap (λ (d : Drafted). d.lent) c.self.view_is in
    IfOk-weaker c.from_items.result _ _ (λ region h. h ∙ ap (λ l. unprepared l (lent_from 0 c.push.new.self)) all ∙ ap (λ l. unprepared c.args.self.bytes l) lent) c.from_items.ensures
