use Rattle.std.proofs.Common.{◌≡◌, ◌++◌, length, ap, ◌∙◌, arith, ℕ, List}
use Rattle.std.specs.List.{enumerate_from, flat_map}
use Rattle.sol_base.specs.declared.account.Account.{Account}
use Rattle.sol_base.specs.declared.lock.Meta.{Meta}
use Rattle.sol_base.specs.Accounts.{accounts_of}
use Rattle.abi_input.specs.Region.{entry_of, entry_start, lent_in}
use Rattle.abi_input.proofs.Drafts.{accounts_laid, length_more}
use Rattle.abi_input.proofs.laying.draft_accounts.Goals as goal

pub add_entries-requires-clause-range : goal.add_entries-requires-clause-range
add_entries-requires-clause-range c = rw c.of.ensures c.requires.range

pub add_entries-requires-clause-start : goal.add_entries-requires-clause-start
add_entries-requires-clause-start c =
    let none : length c.in_ok-draft.draft.bytes ≡ 0 = ap length c.in_ok-draft.ensures.bytes in
    let count : length c.to_le_bytes.result ≡ 8 = ap length c.to_le_bytes.ensures in
    omega (arith, length_more c.in_ok-draft.draft.bytes c.append.new.self.bytes c.to_le_bytes.result c.in_ok-append.ensures.bytes)

pub returns-clause-bytes : goal.returns-clause-bytes
returns-clause-bytes c =
    let keys = c.args.keys.now in
    let accounts = accounts_of c.args.accounts.now in
    accounts_laid keys accounts c.args.metas.now _ _ _ _ c.in_ok-draft.ensures.bytes c.to_le_bytes.ensures c.in_ok-append.ensures.bytes
    (c.in_ok-add_entries.ensures.bytes ∙ ap (λ (m : List Meta). c.append.new.self.bytes ++ flat_map (entry_of keys accounts m) (enumerate_from 0 m)) c.of.ensures)

pub returns-clause-lent : goal.returns-clause-lent
returns-clause-lent c =
    let accounts = accounts_of c.args.accounts.now in
    c.in_ok-add_entries.ensures.lent
    ∙ ap (λ (l : List (ℕ × Account)). l ++ lent_in accounts accounts c.of.result.metas.now) (c.append.ensures.lent ∙ c.in_ok-draft.ensures.lent)
    ∙ ap (λ (m : List Meta). lent_in accounts accounts m) c.of.ensures

pub returns-clause-size : goal.returns-clause-size
returns-clause-size c =
    c.in_ok-add_entries.ensures.size ∙ ap (λ (m : List Meta). entry_start (accounts_of c.args.accounts.now) m (length m)) c.of.ensures
