-- A tree of numbers in a list: behind place 0 each node has the least of its two children, and the
-- last half are leaves.
use Rattle.std.specs.Prelude.{◌≡◌, ℕ, ◌+◌, ◌*◌, ◌<◌, ◌≤◌, ◌==◌, if◌then◌else◌, min, List, slice_index}

-- each of the inner nodes, which stand before place count
abbrev pub IsTree : List ℕ → ℕ → Type 0
IsTree tree count =
    (k : ℕ) → 1 ≤ k → k < count
    → slice_index tree k ≡ min (slice_index tree (2 * k)) (slice_index tree (2 * k + 1))

-- the leaf of a position
abbrev pub leaf : List ℕ → ℕ → ℕ → ℕ
leaf tree count i = slice_index tree (count + i)

-- one leaf is written, and the others stay
abbrev pub LeafIsSet : ℕ → ℕ → ℕ → List ℕ → List ℕ → Type 0
LeafIsSet count position value tree next =
    (i : ℕ) → i < count →
    leaf next count i ≡ (if i == position then value else leaf tree count i)

-- a leaf has the number
abbrev pub IsALeaf : List ℕ → ℕ → ℕ → Type 0
IsALeaf tree count n = (i : ℕ) × (i < count) × (leaf tree count i ≡ n)
