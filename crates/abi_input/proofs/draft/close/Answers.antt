use Rattle.std.proofs.Common.{ap, ◌∙◌, ◌++◌, List, ℕ}
use Rattle.data_parts.specs.Parts.{bytes_of}
use Rattle.abi_input.proofs.Drafts.{closed, closed_lent}
use Rattle.abi_input.proofs.draft.close.Goals as goal

pub returns-clause-done : goal.returns-clause-done
returns-clause-done c = closed _ _ _ c.in_ok-push.ensures.ok ∙ ap (λ (l : List ℕ). bytes_of c.args.done.now ++ l) c.replace-whole.ensures.value

pub returns-clause-lent : goal.returns-clause-lent
returns-clause-lent c = closed_lent _ _ _ c.in_ok-push.ensures.ok
