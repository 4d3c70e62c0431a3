-- A timer tree of times, for the code's own contracts: each inner node is the least of the four
-- below it, and the leaves are the second half. So the nodes of a level are 4, 16, 64, 256 or 1024,
-- after as many that it has no use for.
use Rattle.std.specs.Prelude.{ℕ, ◌+◌, ◌*◌, ◌/◌, ◌<◌, ◌≤◌, ◌≡◌, ◌≢◌, min, List, length, drop, slice_index_or}
use Rattle.due_times.specs.Timers.{AreLater, IsSize}

abbrev pub least_below : List ℕ → ℕ → ℕ
least_below nodes i =
    min (min (slice_index_or nodes (4 * i) 0) (slice_index_or nodes (4 * i + 1) 0))
    (min (slice_index_or nodes (4 * i + 2) 0) (slice_index_or nodes (4 * i + 3) 0))

abbrev pub IsLeast : List ℕ → ℕ → Type 0
IsLeast nodes i = slice_index_or nodes i 0 ≡ least_below nodes i

-- each inner node but one
pub record IsTreeBut (at : ℕ) (nodes : List ℕ) : Type 0 where
  pub fours : length nodes ≡ 4 * (length nodes / 4)
  pub each : (i : ℕ) → 1 ≤ i → i < length nodes / 4 → i ≢ at → IsLeast nodes i

-- each inner node
abbrev pub IsTimerTreeOf : List ℕ → Type 0
IsTimerTreeOf nodes = IsTreeBut 0 nodes

abbrev pub leaves : List ℕ → List ℕ
leaves nodes = drop (length nodes / 2) nodes

-- what a timer tree keeps: the room for 2048 nodes that it was opened with, so it takes no more
pub record IsTimerTree (nodes : List ℕ) (capacity : ℕ) : Type 0 where
  pub tree : IsTimerTreeOf nodes
  pub size : IsSize (length nodes / 2)
  pub most : length nodes ≤ 2048
  pub room : capacity ≡ 2048

-- so many of three times, from the first on, have not come, and the next of them has
pub record ArePassed (first second third time count : ℕ) : Type 0 where
  pub most : count ≤ 3
  pub one : 0 < count → time < first
  pub two : 1 < count → time < second
  pub three : 2 < count → time < third
  pub at_one : count ≡ 0 → first ≤ time
  pub at_two : count ≡ 1 → second ≤ time
  pub at_three : count ≡ 2 → third ≤ time

-- a node on the way from the root down to the first leaf that has come, so many leaves below it:
-- something has come in it, and no leaf before those has
pub record IsOnWay (nodes : List ℕ) (time at span : ℕ) : Type 0 where
  pub one : 1 ≤ at
  pub low : length nodes / 2 ≤ at * span
  pub high : (at + 1) * span ≤ length nodes
  pub ahead : AreLater nodes time (length nodes / 2) (at * span)
  pub come : slice_index_or nodes at 0 ≤ time

-- of eight halves the second is in the fifth as well, for so many nodes; the others are as they
-- were
pub record AreCopied (old : List ℕ) (half count : ℕ) (new : List ℕ) : Type 0 where
  pub copies : (leaf : ℕ) → leaf < count
      → slice_index_or new (4 * half + leaf) 0 ≡ slice_index_or old (half + leaf) 0
  pub before : (node : ℕ) → node < 4 * half → slice_index_or new node 0 ≡ slice_index_or old node 0
  pub following : (node : ℕ) → 4 * half + count ≤ node
      → slice_index_or new node 0 ≡ slice_index_or old node 0
