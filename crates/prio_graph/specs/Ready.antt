-- Positions, and which of them are ready.
use Rattle.std.specs.Prelude.{◌≡◌, ℕ, ◌<◌, ◌==◌, Bool, true, false, not, ◌&&◌, List, [], length, replicate, slice_index_or}
use Rattle.bank_law.specs.Machine.{count_below}
use Rattle.lock_table.specs.declared.locks.NumberedLock.{NumberedLock}
use Rattle.lock_table.specs.Numbers.{conflicts}
use Rattle.prio_graph.specs.declared.mark.Mark.{Mark}
use Rattle.prio_graph.specs.declared.mark.Mark.TheVariants.{Waiting, Started, Done}

-- what a graph is seen as: the locks of each position, and how far it is
pub record Positions : Type 0 where
  pub sets : List (List NumberedLock)
  pub marks : List Mark

-- all positions of these locks are waiting
abbrev pub all_waiting : List (List NumberedLock) → Positions
all_waiting sets = record { sets = sets; marks = replicate (length sets) Waiting }

abbrev pub set_at : List (List NumberedLock) → ℕ → List NumberedLock
set_at sets i = slice_index_or sets i []

abbrev pub mark_at : List Mark → ℕ → Mark
mark_at marks i = slice_index_or marks i Done

abbrev pub is_waiting_mark : Mark → Bool
is_waiting_mark Waiting = true
is_waiting_mark Started = false
is_waiting_mark Done = false

abbrev pub is_done_mark : Mark → Bool
is_done_mark Waiting = false
is_done_mark Started = false
is_done_mark Done = true

-- every earlier conflicting position is done
abbrev pub EarlierDone : List (List NumberedLock) → List Mark → ℕ → Type 0
EarlierDone sets marks i =
    (j : ℕ) → j < i → conflicts (set_at sets j) (set_at sets i) ≡ true → mark_at marks j ≡ Done

-- position i is waiting, and every earlier conflicting position is done
pub record IsReady (p : Positions) (i : ℕ) : Type 0 where
  pub below : i < length p.sets
  pub waits : mark_at p.marks i ≡ Waiting
  pub earlier : EarlierDone p.sets p.marks i

-- it is ready, and none before it is
pub record IsLeastOfReady (p : Positions) (i : ℕ) : Type 0 where
  pub ready : IsReady p i
  pub least : (j : ℕ) → j < i → IsReady p j → ⊥

-- how many earlier conflicting positions are not done
abbrev pub left_before : Positions → ℕ → ℕ
left_before p i =
    count_below
    (λ j. conflicts (set_at p.sets j) (set_at p.sets i) && not (is_done_mark (mark_at p.marks j))) i

-- whether a position is ready, and how many are
abbrev pub is_ready : Positions → ℕ → Bool
is_ready p i = is_waiting_mark (mark_at p.marks i) && (left_before p i == 0)

abbrev pub ready_count : Positions → ℕ
ready_count p = count_below (is_ready p) (length p.sets)
