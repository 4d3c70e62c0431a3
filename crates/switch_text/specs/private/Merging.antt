-- Several runs at once: what is left of each, and which entry comes next. The trace text knows
-- nothing of these words.
use Rattle.std.specs.Prelude.{ℕ, ◌≡◌, ◌+◌, ◌<◌, ◌^◌, true, false, List, [], ◌∷◌, ◌++◌, length, drop, slice_index, slice_index_or, slice_set, Option, Some, None}
use Rattle.std.specs.List.{AllByRecursion}
use Rattle.switch_text.specs.declared.run.Run.{Run}
use Rattle.switch_text.specs.declared.merge.Next.{Next}
use Rattle.switch_text.specs.Names.{name_of_task, HasLine, SameNames}
use Rattle.switch_text.specs.Trace.{SwitchesView, Entry, entry_of, entries_of, is_earlier}
use Rattle.switch_text.specs.Runs.{switches_view_of, views}

-- the entries of each run from its place on, one run after the other
abbrev pub entries_left : List SwitchesView → List ℕ → List Entry
entries_left [] places = []
entries_left (r ∷ runs) [] = []
entries_left (r ∷ runs) (p ∷ places) = drop p (entries_of r) ++ entries_left runs places

-- the places when this run has gone one entry on
abbrev pub places_stepped : List ℕ → ℕ → List ℕ
places_stepped places i = slice_set places i (slice_index places i + 1)

-- an entry of this run that is left, earlier than those left before it, and not later than those
-- left after it
pub record IsEntryAhead (runs : List SwitchesView) (places : List ℕ) (i : ℕ)
    (e : Entry) : Type 0 where
  pub before : List Entry
  pub after : List Entry
  pub inside : i < length runs
  pub split : entries_left runs places ≡ before ++ e ∷ after
  pub moved : entries_left runs (places_stepped places i) ≡ before ++ after
  pub earlier : AllByRecursion (λ x. is_earlier e x ≡ true) before
  pub not_later : AllByRecursion (λ x. is_earlier x e ≡ false) after

abbrev pub next_entry : Next → Entry
next_entry n = entry_of (switches_view_of n.run.now) n.switch.now

abbrev pub IsPrinted : Next → Type 0
IsPrinted n = HasLine n.run.now.names.now n.run.now.base n.switch.now

-- its run stands among the runs, at its place
pub record IsRunAt (runs : List Run) (n : Next) : Type 0 where
  pub inside : n.index < length runs
  pub is : n.run.now ≡ slice_index_or runs n.index n.run.now

-- it is one of the switches of its run
pub record IsAmong (n : Next) : Type 0 where
  pub place : ℕ
  pub inside : place < length n.run.now.switches.now
  pub is : n.switch.now ≡ slice_index_or n.run.now.switches.now place n.switch.now

-- who leaves and who comes is so named there, by the place of its run
abbrev pub IsNextNamed : (ℕ → ℕ → List ℕ) → Next → Type 0
IsNextNamed names n = SameNames (name_of_task n.run.now.names.now) (names n.index) n.switch.now

-- the next of all, which has a line
pub record IsNextOf (runs : List Run) (places : List ℕ) (n : Next) : Type 0 where
  pub ahead : IsEntryAhead (views runs) places n.index (next_entry n)
  pub printed : IsPrinted n
  pub run : IsRunAt runs n
  pub among : IsAmong n
  pub place : slice_index places n.index + 1 < 2 ^ 64

-- nothing is left, or the next of all is found
abbrev pub IsNextFound : List Run → List ℕ → Option Next → Type 0
IsNextFound runs places None = entries_left (views runs) places ≡ []
IsNextFound runs places (Some n) = IsNextOf runs places n
