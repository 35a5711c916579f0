-- What a graph keeps beside its positions: a counter and the later ends of its edges for each, and
-- the ready ones as leaves of a tree.
use Rattle.std.specs.Prelude.{◌≡◌, ℕ, ◌+◌, ◌-◌, ◌*◌, ◌^◌, ◌<◌, ◌≤◌, ◌==◌, Bool, ◌&&◌, if◌then◌else◌, List, [], length, nat_lt, count_by, slice_index, slice_index_or}
use Rattle.lock_table.specs.declared.locks.NumberedLock.{NumberedLock}
use Rattle.prio_graph.specs.declared.mark.Mark.{Mark}
use Rattle.bank_law.specs.Machine.{count_below}
use Rattle.prio_graph.specs.Ready.{mark_at, is_waiting_mark}
use Rattle.prio_graph.specs.Chains.{once, edges_into, counter, StartedInOrder}
use Rattle.prio_graph.specs.Trees.{IsTree, leaf}

-- how often a position stands in a list
abbrev pub times : ℕ → List ℕ → ℕ
times i row = count_by (λ x. x == i) row

-- how many edges lead from position j to position i, where a row has the later ends of one position
abbrev pub edges : List (List ℕ) → ℕ → ℕ → ℕ
edges rows j i = times i (slice_index_or rows j [])

-- what a leaf has for a position that is not ready
abbrev pub none : ℕ
none = 4294967295

-- the leaf of a position has its number where it is ready
abbrev pub shown : Bool → ℕ → ℕ
shown ready i = if ready then i else none

-- each position that waits for nobody is shown, and no other
abbrev pub ShowsFree : List ℕ → List ℕ → Type 0
ShowsFree waits tree =
    (i : ℕ) → i < length waits →
    leaf tree (length waits) i ≡ shown (slice_index waits i == 0) i

-- each position of the row that waits for nobody now is shown too
abbrev pub ShowsReleased : List ℕ → List ℕ → List ℕ → List ℕ → List ℕ → Type 0
ShowsReleased row waits next tree shows =
    (i : ℕ) → i < length waits →
    leaf shows (length waits) i ≡
    (if nat_lt 0 (times i row) && (slice_index next i == 0) then i else leaf tree (length waits) i)

-- each position has a counter of the edges that lead to it
abbrev pub CountsEdges : List (List NumberedLock) → List ℕ → Type 0
CountsEdges sets waits =
    (i : ℕ) → i < length sets → slice_index waits i ≡ length (edges_into sets i)

-- the rows have the edges that lead to positions
abbrev pub HasEdges : List (List NumberedLock) → List (List ℕ) → Type 0
HasEdges sets rows =
    (j i : ℕ) → i < length sets → edges rows j i ≡ times j (edges_into sets i)

-- and no others
abbrev pub HasNoOthers : List (List NumberedLock) → List (List ℕ) → Type 0
HasNoOthers sets rows = (j i : ℕ) → length sets ≤ i → edges rows j i ≡ 0

-- whether a row ends in a number
abbrev pub ends_in : List ℕ → ℕ → Bool
ends_in row n = nat_lt 0 (length row) && (slice_index row (length row - 1) == n)

-- the rows get an edge to the position from each of the earlier ones, and one alone
abbrev pub AddsEdges : List ℕ → ℕ → List (List ℕ) → List (List ℕ) → Type 0
AddsEdges earlier position rows next =
    (j i : ℕ) →
    edges next j i ≡ edges rows j i + (if i == position then times j (once earlier) else 0)

-- how many positions wait for nobody, and how many of them are waiting: the ready ones
abbrev pub free_count : List ℕ → ℕ
free_count waits = count_below (λ i. slice_index waits i == 0) (length waits)

abbrev pub waiting_free_count : List Mark → List ℕ → ℕ
waiting_free_count marks waits =
    count_below (λ i. is_waiting_mark (mark_at marks i) && (slice_index waits i == 0)) (length waits)

-- what a graph keeps
pub record IsGraph (sets : List (List NumberedLock)) (marks : List Mark) (waits : List ℕ)
    (rows : List (List ℕ)) (tree : List ℕ) : Type 0 where
  pub few : length sets < 2 ^ 32
  pub marks_length : length marks ≡ length sets
  pub waits_length : length waits ≡ length sets
  pub rows_length : length rows ≡ length sets
  pub tree_length : length tree ≡ 2 * length sets
  pub in_order : StartedInOrder sets marks
  pub counted : (i : ℕ) → i < length sets → slice_index waits i ≡ counter sets marks i
  pub later : (j i : ℕ) → i < length sets → edges rows j i ≡ times j (edges_into sets i)
  pub never : (j i : ℕ) → length sets ≤ i → edges rows j i ≡ 0
  pub is_tree : IsTree tree (length sets)
  pub leaves : (i : ℕ) → i < length sets →
      leaf tree (length sets) i
      ≡ shown (is_waiting_mark (mark_at marks i) && (slice_index waits i == 0)) i
