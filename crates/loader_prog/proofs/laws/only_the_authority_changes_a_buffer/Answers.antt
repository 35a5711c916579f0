use Rattle.loader_prog.proofs.Authority.{only_the_authority}
use Rattle.loader_prog.proofs.laws.only_the_authority_changes_a_buffer.Goals as goal

pub returns : goal.returns
returns c = record { authority = only_the_authority }
