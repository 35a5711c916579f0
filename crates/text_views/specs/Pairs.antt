-- Two lists, place by place.
use Rattle.std.specs.Prelude.{ℕ, zero, suc, List, [], ◌++◌, length, nat_lt, slice_get, Option, if◌then◌else◌}
use Rattle.text_views.specs.Fields.{Text}

-- the lines of the places below one
abbrev pub pairs_to : {X : Type 0} → (ℕ → Option X → Option X → Text) → List X → List X → ℕ → Text
pairs_to lines left right zero = []
pairs_to lines left right (suc at) =
    pairs_to lines left right at ++ lines at (slice_get left at) (slice_get right at)

abbrev pub longer : ℕ → ℕ → ℕ
longer left right = if nat_lt left right then right else left

-- the lines of all places
abbrev pub pairs_lines : {X : Type 0} → (ℕ → Option X → Option X → Text) → List X → List X → Text
pairs_lines lines left right = pairs_to lines left right (longer (length left) (length right))
