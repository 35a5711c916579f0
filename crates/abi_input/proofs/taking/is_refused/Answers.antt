use Rattle.std.proofs.Common.{◌≡◌, ◌≤◌, true, length, sym, ◌∙◌, arith}
use Rattle.sol_base.specs.Accounts.{accounts_of}
use Rattle.sol_base.specs.Metas.{is_first_listing}
use Rattle.abi_input.specs.Region.{entry_start}
use Rattle.abi_input.proofs.Entries.{first_fits, index_in, too_long_is}
use Rattle.abi_input.proofs.taking.is_refused.Goals as goal

pub account_of-requires : goal.account_of-requires
account_of-requires c = index_in (length (accounts_of c.args.laid.now.start.now)) c.args.laid.now.listings.metas.now c.args.place c.args.meta.now c.args.laid.now.range c.requires.there

pub has_long_data-requires-clause-within : goal.has_long_data-requires-clause-within
has_long_data-requires-clause-within c =
    let same = sym (c.deref.ensures ∙ c.account_of.ensures) in
    let first : is_first_listing c.args.laid.now.listings.metas.now (c.args.place, c.args.meta.now) ≡ true = sym c.is_first.ensures ∙ c.if-not-is_first.false in
    let whole : entry_start (accounts_of c.args.laid.now.start.now) c.args.laid.now.listings.metas.now
    (length c.args.laid.now.listings.metas.now) ≤ length c.args.laid.now.region.now.bytes =
    c.args.laid.now.whole in
    omega (arith, first_fits (accounts_of c.args.laid.now.start.now) c.args.laid.now.listings.metas.now c.args.place c.args.meta.now c.deref.result.now c.requires.there first same, c.requires.entry)

pub has_long_data-requires-clause-start : goal.has_long_data-requires-clause-start
has_long_data-requires-clause-start c =
    let same = sym (c.deref.ensures ∙ c.account_of.ensures) in
    let first : is_first_listing c.args.laid.now.listings.metas.now (c.args.place, c.args.meta.now) ≡ true = sym c.is_first.ensures ∙ c.if-not-is_first.false in
    let whole : entry_start (accounts_of c.args.laid.now.start.now) c.args.laid.now.listings.metas.now
    (length c.args.laid.now.listings.metas.now) ≤ length c.args.laid.now.region.now.bytes =
    c.args.laid.now.whole in
    omega (arith, first_fits (accounts_of c.args.laid.now.start.now) c.args.laid.now.listings.metas.now c.args.place c.args.meta.now c.deref.result.now c.requires.there first same, c.requires.entry)

pub returns : goal.returns
returns c =
    let same = sym (c.deref.ensures ∙ c.account_of.ensures) in
    let first : is_first_listing c.args.laid.now.listings.metas.now (c.args.place, c.args.meta.now) ≡ true = sym c.is_first.ensures ∙ c.if-not-is_first.false in
    c.has_long_data.ensures ∙ too_long_is c.args.laid.now.region.now.bytes
    (accounts_of c.args.laid.now.start.now) c.args.laid.now.listings.metas.now c.args.place c.args.meta.now
    c.deref.result.now c.args.entry first same c.requires.entry
