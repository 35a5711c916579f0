use Rattle.abi_input.proofs.RoundTrips.{what_was_patched}
use Rattle.abi_input.proofs.laws.what_is_patched_in_is_taken_back.Goals as goal

pub returns : goal.returns
returns c = record { accounts = λ region after start now metas count range have whole e. what_was_patched region after start now metas count range have whole e }
