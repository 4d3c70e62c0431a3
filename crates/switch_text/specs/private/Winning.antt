-- Several runs at once, by their heads: which of them comes first, of each two, of each four and of
-- all. The trace text knows nothing of these words.
use Rattle.std.specs.Prelude.{ℕ, zero, suc, ◌≡◌, ◌+◌, ◌-◌, ◌*◌, ◌<◌, ◌≤◌, ◌^◌, ◌==◌, ◌&&◌, ◌||◌, nat_lt, Bool, true, false, List, [], ◌∷◌, length, drop, slice_index, slice_index_or}
use Rattle.switch_text.specs.declared.heads.Head.{Head}
use Rattle.switch_text.specs.declared.heads.Heads.{Heads}
use Rattle.switch_text.specs.declared.merge.Merge.{Merge}
use Rattle.switch_text.specs.Trace.{SwitchesView, Entry, entries_of}

-- where nothing is left: later than each entry
abbrev pub no_head : Head
no_head = record { time = 2 ^ 64 - 1; cpu = 2 ^ 32 - 1 }

abbrev pub head_of : List Entry → Head
head_of [] = no_head
head_of (e ∷ es) = record { time = e.time; cpu = e.cpu }

-- by time, and at one time by the CPU of the machine
abbrev pub is_head_sooner : Head → Head → Bool
is_head_sooner a b = nat_lt a.time b.time || (a.time == b.time && nat_lt a.cpu b.cpu)

abbrev pub head_in : List Head → ℕ → Head
head_in heads i = slice_index_or heads i (record { time = 0; cpu = 0 })

-- of the heads from one up to another this one comes first, and of those of one time and CPU the
-- first does
pub record Wins (heads : List Head) (from to i : ℕ) : Type 0 where
  pub low : from ≤ i
  pub high : i < to
  pub before : (j : ℕ) → from ≤ j → j < i → is_head_sooner (head_in heads i) (head_in heads j)
      ≡ true
  pub following : (j : ℕ) → i ≤ j → j < to
      → is_head_sooner (head_in heads j) (head_in heads i) ≡ false

abbrev pub ArePairs : List Head → List ℕ → Type 0
ArePairs heads pairs = (p : ℕ) → p < 4 → Wins heads (2 * p) (2 * p + 2) (slice_index pairs p)

abbrev pub AreHalves : List Head → List ℕ → Type 0
AreHalves heads halves = (q : ℕ) → q < 2 → Wins heads (4 * q) (4 * q + 4) (slice_index halves q)

-- each node is the winner of the two below it
pub record IsWinningTree (h : Heads) : Type 0 where
  pub pairs : ArePairs h.heads h.pairs
  pub halves : AreHalves h.heads h.halves
  pub first : Wins h.heads 0 8 h.first

-- what is left of one of the runs
abbrev pub left_at : List SwitchesView → List ℕ → ℕ → List Entry
left_at [] places i = []
left_at (r ∷ runs) [] i = []
left_at (r ∷ runs) (p ∷ places) zero = drop p (entries_of r)
left_at (r ∷ runs) (p ∷ places) (suc i) = left_at runs places i

-- each head is that of what is left of its run
pub record AreHeads (runs : List SwitchesView) (m : Merge) : Type 0 where
  pub heads : (i : ℕ) → i < 8 → head_in m.heads.heads i ≡ head_of (left_at runs m.places i)
  pub tree : IsWinningTree m.heads

-- of several runs the heads are known; of one alone none is looked at
pub record IsMerge (runs : List SwitchesView) (m : Merge) : Type 0 where
  pub several : 1 < length runs → AreHeads runs m
  pub alone : length runs ≤ 1 → m.heads.first ≡ 0
