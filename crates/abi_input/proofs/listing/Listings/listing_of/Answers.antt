use Rattle.std.proofs.Common.{ap, ◌∙◌, arith}
use Rattle.abi_input.specs.Listing.{listing_in}
use Rattle.abi_input.proofs.Listed.{table_at}
use Rattle.abi_input.proofs.listing.Listings.listing_of.Goals as goal

pub returns : goal.returns
returns c = table_at c.args.self.now.metas.now c.args.self.now.table c.from.result _ (omega arith) c.args.self.now.listed ∙ ap (λ index. listing_in c.args.self.now.metas.now index) c.from.ensures
