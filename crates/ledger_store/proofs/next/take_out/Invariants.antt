use Rattle.std.proofs.Common.{◌≡◌, drop}
use Rattle.ledger_store.specs.Changes.{without}
use Rattle.ledger_store.proofs.next.take_out.Given as goal

-- what is still to be taken out
abbrev pub invariant-loop-key : goal.invariant-loop-key
invariant-loop-key l = without (drop l.key-index l.keys) l.accounts ≡ without l.keys l.fn.accounts
