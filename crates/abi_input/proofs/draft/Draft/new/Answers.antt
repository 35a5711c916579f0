use Rattle.abi_input.proofs.Drafts.{empty_draft, empty_lent}
use Rattle.abi_input.proofs.draft.Draft.new.Goals as goal

pub returns-clause-bytes : goal.returns-clause-bytes
returns-clause-bytes c = empty_draft _ _ c.in_ok-with_capacity.ensures c.in_ok-with_capacity-2.ensures

pub returns-clause-lent : goal.returns-clause-lent
returns-clause-lent c = empty_lent _ c.in_ok-with_capacity.ensures
