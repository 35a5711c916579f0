use Rattle.std.proofs.Common.{◌≡◌, ◌≤◌, true, sym, ◌∙◌, arith, length}
use Rattle.sol_base.specs.Accounts.{accounts_of}
use Rattle.sol_base.specs.Metas.{is_first_listing, AreInRange}
use Rattle.abi_input.specs.Region.{entry_start}
use Rattle.abi_input.proofs.Entries.{first_fits, index_in, outgrown_is}
use Rattle.abi_input.proofs.patching.outgrows.Goals as goal

pub account_of-requires : goal.account_of-requires
account_of-requires c = index_in (length (accounts_of c.args.laid.now.start.now)) c.args.laid.now.listings.metas.now c.args.place c.args.meta.now c.args.laid.now.range c.requires.there

pub account_of-requires-2 : goal.account_of-requires-2
account_of-requires-2 c =
    let range : AreInRange (length (accounts_of c.args.now.now)) c.args.laid.now.listings.metas.now = rw c.requires.count c.args.laid.now.range in
    index_in (length (accounts_of c.args.now.now)) c.args.laid.now.listings.metas.now c.args.place c.args.meta.now range c.requires.there

pub room_for-requires : goal.room_for-requires
room_for-requires c =
    let same = sym (c.deref-start.ensures ∙ c.account_of.ensures) in
    let first : is_first_listing c.args.laid.now.listings.metas.now (c.args.place, c.args.meta.now) ≡ true = sym c.is_first.ensures ∙ c.if-not-is_first.false in
    let whole : entry_start (accounts_of c.args.laid.now.start.now) c.args.laid.now.listings.metas.now
    (length c.args.laid.now.listings.metas.now) ≤ length c.args.laid.now.region.now.bytes =
    c.args.laid.now.whole in
    let small = c.args.laid.now.small in
    omega (arith, first_fits (accounts_of c.args.laid.now.start.now) c.args.laid.now.listings.metas.now c.args.place c.args.meta.now c.deref-start.result.now c.requires.there first same)

pub returns : goal.returns
returns c =
    let first : is_first_listing c.args.laid.now.listings.metas.now (c.args.place, c.args.meta.now) ≡ true = sym c.is_first.ensures ∙ c.if-not-is_first.false in
    outgrown_is (accounts_of c.args.laid.now.start.now) (accounts_of c.args.now.now)
    c.args.laid.now.listings.metas.now c.args.place c.args.meta.now c.deref-start.result.now
    c.deref-now.result.now c.room_for.result c.len.result first
    (sym (c.deref-start.ensures ∙ c.account_of.ensures)) (sym (c.deref-now.ensures ∙ c.account_of-2.ensures)) c.room_for.ensures c.len.ensures
