-- The listings of a frame, by their places in its list (the project's own).
use Rattle.std.specs.Prelude.{ℕ, Bool, true, List, slice_get, Option, Some, None}
use Rattle.sol_base.specs.declared.lock.Meta.{Meta}
use Rattle.sol_base.specs.Metas.{is_first_listing}

abbrev pub is_first_by : List Meta → ℕ → Option Meta → Bool
is_first_by metas place None = true
is_first_by metas place (Some meta) = is_first_listing metas (place, meta)

-- no listing before this place means the account that is listed there
abbrev pub is_first_at : List Meta → ℕ → Bool
is_first_at metas place = is_first_by metas place (slice_get metas place)
