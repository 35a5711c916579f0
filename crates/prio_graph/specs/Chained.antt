-- The steps by which the chains are made, one position after the other.
use Rattle.std.specs.Prelude.{◌≡◌, ℕ, ◌<◌, ◌≤◌, List, [], length, slice_index, slice_index_or, Option, None, All}
use Rattle.lock_table.specs.declared.locks.NumberedLock.{NumberedLock}
use Rattle.prio_graph.specs.Ready.{set_at}
use Rattle.prio_graph.specs.Chains.{last_writer, readers_since, edges_into}
use Rattle.prio_graph.specs.Kept.{times, edges}

-- The chains and the edges of the first i positions: the last writer of each number and its readers
-- since, the later ends of the edges from each position, and how many lead to each.
pub record Chained (sets : List (List NumberedLock)) (i : ℕ) (last : List (Option ℕ))
    (readers rows : List (List ℕ)) (waits : List ℕ) : Type 0 where
  pub numbers : (j : ℕ) → All (λ lock. lock.number < length last) (set_at sets j)
  pub readers_length : length readers ≡ length last
  pub rows_length : length rows ≡ length sets
  pub waits_length : length waits ≡ length sets
  pub writer : (n : ℕ) → n < length last → slice_index_or last n None ≡ last_writer sets i n
  pub since : (n : ℕ) → n < length last → slice_index_or readers n [] ≡ readers_since sets i n
  pub later : (j m : ℕ) → m < i → edges rows j m ≡ times j (edges_into sets m)
  pub never : (j m : ℕ) → i ≤ m → edges rows j m ≡ 0
  pub counted : (m : ℕ) → m < i → slice_index waits m ≡ length (edges_into sets m)
