use Rattle.sbpf_asm.proofs.Listings.{listed_again}
use Rattle.sbpf_asm.proofs.laws.listings_assemble_again.Goals as goal

pub returns : goal.returns
returns c = record { again = listed_again }
