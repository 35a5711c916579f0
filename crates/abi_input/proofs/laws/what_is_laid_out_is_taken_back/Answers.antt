use Rattle.abi_input.proofs.RoundTrips.{what_was_laid_out}
use Rattle.abi_input.proofs.laws.what_is_laid_out_is_taken_back.Goals as goal

pub returns : goal.returns
returns c = record { accounts = λ keys accounts metas input program count range are_keys have. what_was_laid_out keys accounts metas input program count range are_keys have }
