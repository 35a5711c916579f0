-- The key over which one transaction holds up another (the project's own).
use Rattle.std.specs.Prelude.{Bool, List, Option, option_map}
use Rattle.std.specs.List.{find, list_any}
use Rattle.sol_base.specs.declared.key.Key.{Key}
use Rattle.sol_base.specs.declared.lock.Lock.{Lock}
use Rattle.bank_law.specs.Machine.{meet}

-- one of the earlier locks meets the lock
abbrev pub is_met : List Lock → Lock → Bool
is_met earlier lock = list_any (λ one. meet one lock) earlier

-- the key of the first lock that one of the earlier ones meets
abbrev pub key_met : List Lock → List Lock → Option Key
key_met earlier locks = option_map (λ lock. lock.key) (find (is_met earlier) locks)
