use Rattle.std.proofs.Common.{◌≡◌, List, set, ap, ◌∙◌, rules}
use Rattle.std.specs.Arc.{arc_value}
use Rattle.sol_base.specs.declared.account.Account.{Account}
use Rattle.sol_base.specs.Accounts.{accounts_of}
use Rattle.loader_prog.specs.Loader.{holding}
use Rattle.loader_prog.proofs.Replacing.{shares_set}
use Rattle.loader_prog.proofs.run.rewritten.Goals as goal

pub returns-clause-accounts : goal.returns-clause-accounts
returns-clause-accounts c =
    let shares = c.into_vec-shares.result.items in
    let share = c.in_ok-share.share in
    let old = c.index-accounts-place.result in
    let list : c.from_vec.result ≡ set shares c.args.place share = c.from_vec.ensures ∙ c.put.ensures in
    let value : arc_value share ≡ holding (arc_value old) c.args.bytes = c.in_ok-share.ensures.ok ∙ c.with_bytes.ensures ∙ ap (λ (a : Account). holding a c.args.bytes) c.deref.ensures in
    let same : accounts_of shares ≡ accounts_of c.args.accounts.now = ap (λ (l : List _). accounts_of l) c.into_vec-shares.ensures ∙ search rules in
    ap (λ (l : List _). accounts_of l) list ∙ shares_set c.args.accounts.now shares c.args.place old share c.args.bytes c.requires c.index-accounts-place.is value same
