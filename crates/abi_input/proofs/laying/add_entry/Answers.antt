use Rattle.std.proofs.Common.{◌++◌, ◌+◌, ℕ, List, length, sym, ap, ◌∙◌, subst, arith}
use Rattle.std.specs.Arc.{arc_value}
use Rattle.std.specs.Prelude.{Option, unwrap_or}
use Rattle.std.proofs.lemmas.List.{append-nil}
use Rattle.std.proofs.lemmas.Result.{on_ok_weaker}
use Rattle.sol_base.specs.declared.account.Account.{Account}
use Rattle.sol_base.specs.Accounts.{accounts_of, IsShort}
use Rattle.abi_input.specs.declared.listing.Listing.{Listing}
use Rattle.abi_input.proofs.Listed.{listed_there}
use Rattle.abi_input.proofs.Entries.{entry_added, entry_again, index_in, short_at, size_first}
use Rattle.abi_input.proofs.Lent.{lent_again, lent_first}
use Rattle.abi_input.proofs.laying.add_entry.Goals as goal

pub account_of-requires : goal.account_of-requires
account_of-requires c = index_in (length (accounts_of c.args.accounts.now)) c.args.listings.now.metas.now c.args.place c.args.meta.now c.requires.range c.requires.there

pub add_first-requires : goal.add_first-requires
add_first-requires c =
    subst (λ (a : Account). IsShort a) (sym c.account_of.ensures) (short_at (accounts_of c.args.accounts.now) c.args.meta.now.index c.requires.short)

pub returns-then-is_first-clause-bytes : goal.returns-then-is_first-clause-bytes
returns-then-is_first-clause-bytes c =
    let first = sym c.is_first.ensures ∙ c.if-is_first.true in
    let below = index_in (length (accounts_of c.args.accounts.now)) c.args.listings.now.metas.now c.args.place c.args.meta.now c.requires.range c.requires.there in
    on_ok_weaker c.add_first.result
    (λ e. e ∙ ap (λ (l : List ℕ). c.args.draft.now.bytes ++ l)
    (entry_added c.args.keys.now (accounts_of c.args.accounts.now) c.args.listings.now.metas.now
    c.args.place c.args.meta.now c.listing_of-listing.result c.from.result _
    (arc_value c.account_of.result.now)
    c.listing_of-listing.ensures first c.from.ensures (omega arith) (sym c.account_of.ensures)))
    c.add_first.ensures.bytes

pub returns-then-is_first-clause-size : goal.returns-then-is_first-clause-size
returns-then-is_first-clause-size c =
    let first = sym c.is_first.ensures ∙ c.if-is_first.true in
    on_ok_weaker c.add_first.result
    (λ e. e ∙ ap (λ n. length c.args.draft.now.bytes + n)
    (sym (size_first (accounts_of c.args.accounts.now) c.args.listings.now.metas.now c.args.place
    c.args.meta.now (arc_value c.account_of.result.now) first (sym c.account_of.ensures))))
    c.add_first.ensures.size

pub returns-else-is_first-clause-bytes : goal.returns-else-is_first-clause-bytes
returns-else-is_first-clause-bytes c =
    let again = sym c.is_first.ensures ∙ c.if-is_first.false in
    let is = c.unwrap_or.ensures
    ∙ ap (λ (o : Option ℕ). unwrap_or o 0)
    (ap (λ (l : Listing). l.first) c.listing_of-listing.ensures
    ∙ listed_there c.args.listings.now.metas.now c.args.place c.args.meta.now c.requires.there) in
    on_ok_weaker c.add_repeated.result
    (λ e. e ∙ ap (λ (l : List ℕ). c.args.draft.now.bytes ++ l)
    (sym (entry_again c.args.keys.now (accounts_of c.args.accounts.now) c.args.listings.now.metas.now
    c.args.place c.args.meta.now c.unwrap_or.result again is)))
    c.add_repeated.ensures.bytes

pub returns-then-is_first-clause-lent : goal.returns-then-is_first-clause-lent
returns-then-is_first-clause-lent c =
    let accounts = accounts_of c.args.accounts.now in
    let first = sym c.is_first.ensures ∙ c.if-is_first.true in
    on_ok_weaker c.add_first.result
    (λ e. e ∙ ap (λ (l : List (ℕ × Account)). c.args.draft.now.lent ++ l)
    (lent_first accounts accounts c.args.listings.now.metas.now c.args.place c.args.meta.now
    (length c.args.draft.now.bytes) (arc_value c.account_of.result.now) first c.requires.start
    (sym c.account_of.ensures)))
    c.add_first.ensures.lent

pub returns-else-is_first-clause-lent : goal.returns-else-is_first-clause-lent
returns-else-is_first-clause-lent c =
    let accounts = accounts_of c.args.accounts.now in
    let again = sym c.is_first.ensures ∙ c.if-is_first.false in
    let same = c.add_repeated.ensures.lent ∙ sym (append-nil c.args.draft.now.lent)
    ∙ ap (λ (l : List (ℕ × Account)). c.args.draft.now.lent ++ l)
    (sym (lent_again accounts accounts c.args.listings.now.metas.now c.args.place c.args.meta.now again)) in
    on_ok_weaker c.add_repeated.result (λ _. same) c.add_repeated.ensures.size
