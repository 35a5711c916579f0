use Rattle.std.proofs.Common.{◌+◌, ap, ◌∙◌}
use Rattle.account_store.proofs.Walks.{weight}
use Rattle.account_store.proofs.Joins.{are_put, joined_all}
use Rattle.account_store.proofs.accounts.Accounts.put_in.Goals as goal

pub invariant_of-result : goal.invariant_of-result
invariant_of-result c =
    let joined =
    joined_all c.self.inside.tree c.in_ok-more.more c.append.new.self c.args.entries.items c.args.self c.self.inside.total c.total_with-total.result c.self.invariant c.self.view_is
    (are_put c.args.self c.args.entries.items c.requires.distinct c.requires.absent c.requires.held) c.requires.fits c.requires.distinct c.in_ok-more.ensures c.in_ok-append.ensures.inserts_all
    (c.total_with-total.ensures ∙ ap (λ es. c.self.inside.total + weight es) c.deref.ensures.value) in
    joined.kept

pub returns : goal.returns
returns c =
    let joined =
    joined_all c.self.inside.tree c.in_ok-more.more c.append.new.self c.args.entries.items c.args.self c.self.inside.total c.total_with-total.result c.self.invariant c.self.view_is
    (are_put c.args.self c.args.entries.items c.requires.distinct c.requires.absent c.requires.held) c.requires.fits c.requires.distinct c.in_ok-more.ensures c.in_ok-append.ensures.inserts_all
    (c.total_with-total.ensures ∙ ap (λ es. c.self.inside.total + weight es) c.deref.ensures.value) in
    record { accounts = joined.accounts; state = joined.kept.is_state }
