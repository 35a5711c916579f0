use Rattle.std.proofs.Common.{sym, ap, ◌∙◌, leb}
use Rattle.abi_input.specs.declared.listing.Listing.{Listing}
use Rattle.abi_input.proofs.Listed.{first_test, listed_there}
use Rattle.abi_input.proofs.listing.Listings.is_first.Goals as goal

pub returns-in-Some : goal.returns-in-Some
returns-in-Some c =
    ap (λ n. leb c.args.place n) c.from.ensures
    ∙ first_test c.args.self.now.metas.now c.args.place c.args.meta.now c.in-Some.first c.requires (ap (λ (l : Listing). l.first) (sym c.listing_of.ensures) ∙ c.in-Some.is)

pub returns-in-None : goal.returns-in-None
returns-in-None c =
    let none = ap (λ (l : Listing). l.first) (sym c.listing_of.ensures) ∙ c.in-None.is in
    let some = listed_there c.args.self.now.metas.now c.args.place c.args.meta.now c.requires in
    absurd (cc)
