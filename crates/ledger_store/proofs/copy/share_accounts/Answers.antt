use Rattle.std.proofs.Common.{List, ◌∙◌, ap, arith}
use Rattle.account_store.specs.State.{State, entries, lamports_of, sum}
use Rattle.account_store.proofs.StateLaws.{entries-empty}
use Rattle.ledger_store.specs.Changes.{puts}
use Rattle.ledger_store.proofs.Differences.{Entry, puts_all}
use Rattle.ledger_store.proofs.copy.share_accounts.Goals as goal

pub put_over-requires : goal.put_over-requires
put_over-requires c = omega (arith, ap sum c.new-shares.ensures, ap (λ (es : List Entry). lamports_of es) entries-empty, c.requires.fits)

pub returns : goal.returns
returns c = c.in_ok-put_over.ensures ∙ ap (λ (s : State). puts (entries c.args.accounts.now) s) c.new-shares.ensures ∙ puts_all c.args.accounts.now c.requires
