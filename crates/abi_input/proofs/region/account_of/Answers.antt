use Rattle.std.proofs.Common.{sym, ap, ◌∙◌, arith}
use Rattle.std.specs.Arc.{arc_value}
use Rattle.std.proofs.lemmas.List.{length-map}
use Rattle.sol_base.specs.Accounts.{accounts_of}
use Rattle.abi_input.specs.Region.{account_in}
use Rattle.abi_input.proofs.Entries.{account_there}
use Rattle.abi_input.proofs.region.account_of.Goals as goal

pub returns : goal.returns
returns c =
    let count = length-map c.args.accounts.now (λ share. arc_value share) in
    sym (account_there c.args.accounts.now c.from.result c.index-accounts-from.result
    (omega (arith, count, c.from.ensures, c.requires)) c.index-accounts-from.is)
    ∙ ap (λ n. account_in (accounts_of c.args.accounts.now) n) c.from.ensures
