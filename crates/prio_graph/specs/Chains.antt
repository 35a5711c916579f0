-- The chains of positions: whom each waits for.
use Rattle.std.specs.Prelude.{◌≡◌, ℕ, zero, suc, ◌<◌, ◌==◌, not, if◌then◌else◌, List, [], ◌∷◌, ◌++◌, length, count_by, Option, Some, None, option_to_list}
use Rattle.std.specs.List.{filter, flat_map}
use Rattle.lock_table.specs.declared.locks.NumberedLock.{NumberedLock}
use Rattle.lock_chains.specs.Passing.{writes_number, reads_number}
use Rattle.prio_graph.specs.declared.mark.Mark.{Mark}
use Rattle.prio_graph.specs.declared.mark.Mark.TheVariants.{Waiting}
use Rattle.prio_graph.specs.Ready.{set_at, mark_at, is_done_mark, EarlierDone}

-- the last writer of the number before position i
abbrev pub last_writer : List (List NumberedLock) → ℕ → ℕ → Option ℕ
last_writer sets zero n = None
last_writer sets (suc i) n =
    if writes_number (set_at sets i) n then Some i else last_writer sets i n

-- the readers of the number since, before position i
abbrev pub readers_since : List (List NumberedLock) → ℕ → ℕ → List ℕ
readers_since sets zero n = []
readers_since sets (suc i) n =
    if writes_number (set_at sets i) n then [] else
    if reads_number (set_at sets i) n then readers_since sets i n ++ i ∷ []
    else readers_since sets i n

-- a reader waits for the last writer, and a writer for it and the readers since
abbrev pub awaited : List (List NumberedLock) → ℕ → NumberedLock → List ℕ
awaited sets i lock =
    option_to_list (last_writer sets i lock.number)
    ++ (if lock.write then readers_since sets i lock.number else [])

-- each number of a list once, where it stands first
abbrev pub once : List ℕ → List ℕ
once [] = []
once (x ∷ xs) = x ∷ filter (λ y. not (y == x)) (once xs)

-- the earlier ends of the edges of position i, each once
abbrev pub edges_into : List (List NumberedLock) → ℕ → List ℕ
edges_into sets i = once (flat_map (awaited sets i) (set_at sets i))

-- the counter of position i: the number of its edges whose earlier end is not done
abbrev pub counter : List (List NumberedLock) → List Mark → ℕ → ℕ
counter sets marks i = count_by (λ j. not (is_done_mark (mark_at marks j))) (edges_into sets i)

-- each started or done position has all its earlier conflicting positions done
abbrev pub StartedInOrder : List (List NumberedLock) → List Mark → Type 0
StartedInOrder sets marks =
    (i : ℕ) → i < length sets → (mark_at marks i ≡ Waiting → ⊥) → EarlierDone sets marks i
