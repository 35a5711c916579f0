use Rattle.std.proofs.Common.{length, sym, ◌∙◌, arith}
use Rattle.sol_base.specs.Accounts.{accounts_of}
use Rattle.abi_input.proofs.Entries.{first_fits, index_in, size_first}
use Rattle.abi_input.proofs.region.LaidOut.entry_len.Goals as goal

pub account_of-requires : goal.account_of-requires
account_of-requires c = index_in (length (accounts_of c.args.self.now.start.now)) c.args.self.now.listings.metas.now c.args.place c.args.meta.now c.args.self.now.range c.requires

pub first_len-requires : goal.first_len-requires
first_len-requires c =
    let same = sym (c.deref.ensures ∙ c.account_of.ensures) in
    let first = sym c.is_first.ensures ∙ c.if-is_first.true in
    omega (arith, first_fits (accounts_of c.args.self.now.start.now) c.args.self.now.listings.metas.now c.args.place c.args.meta.now c.deref.result.now c.requires first same)

pub returns-then-is_first : goal.returns-then-is_first
returns-then-is_first c =
    let same = sym (c.deref.ensures ∙ c.account_of.ensures) in
    let first = sym c.is_first.ensures ∙ c.if-is_first.true in
    c.first_len.ensures ∙ sym (size_first (accounts_of c.args.self.now.start.now) c.args.self.now.listings.metas.now c.args.place c.args.meta.now c.deref.result.now first same)
