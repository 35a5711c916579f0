use Rattle.program_cache.proofs.Listings.{sought-among, sought-other}
use Rattle.program_cache.proofs.laws.programs_are_kept_by_their_keys.Goals as goal

pub returns : goal.returns
returns c = record { among = λ s keys key h. sought-among s keys key h; other = λ s keys key h. sought-other s keys key h }
