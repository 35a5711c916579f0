-- Lists of a fixed length of which the first bytes are written down, and the others are zero.
use Rattle.std.specs.Prelude.{ℕ, ◌-◌, ◌++◌, List, length, replicate}

abbrev pub filled : List ℕ → ℕ → List ℕ
filled bytes size = bytes ++ replicate (size - length bytes) 0
