use Rattle.std.proofs.Common.{ap, ◌∙◌, ◌++◌, length}
use Rattle.data_parts.specs.Parts.{lent_by, part_bytes}
use Rattle.data_parts.proofs.PartLaws.{parts_push}
use Rattle.abi_input.specs.Drafts.{Drafted}
use Rattle.abi_input.proofs.Drafts.{added, added_lent}
use Rattle.abi_input.proofs.draft.Draft.add.Goals as goal

pub returns-clause-bytes : goal.returns-clause-bytes
returns-clause-bytes c =
    added c.self.inside.done c.close.new.done c.push.new.self c.self.inside.last c.close.new.last c.args.part (part_bytes c.args.part)
    c.in_ok-close.ensures.done c.in_ok-close.ensures.last (parts_push c.close.new.done c.args.part) c.in_ok-push.ensures.ok
    ∙ ap (λ (d : Drafted). d.bytes ++ part_bytes c.args.part) c.self.view_is

pub returns-clause-lent : goal.returns-clause-lent
returns-clause-lent c =
    added_lent c.self.inside.done c.close.new.done c.push.new.self c.self.inside.last c.args.part c.in_ok-close.ensures.done c.in_ok-close.ensures.lent c.in_ok-push.ensures.ok
    ∙ ap (λ (d : Drafted). d.lent ++ lent_by (length d.bytes) c.args.part) c.self.view_is
