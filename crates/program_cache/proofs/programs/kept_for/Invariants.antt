use Rattle.std.proofs.Common.{◌≡◌, take, map}
use Rattle.program_cache.specs.Programs.{sought_in}
use Rattle.program_cache.specs.Kept.{kept_as}
use Rattle.program_cache.proofs.programs.kept_for.Given as goal

-- what is kept for the keys so far
abbrev pub invariant-loop-key : goal.invariant-loop-key
invariant-loop-key l = map kept_as l.kept.items ≡ map (sought_in l.accounts) (take l.key-index l.keys)
