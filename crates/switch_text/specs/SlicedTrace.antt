-- The trace text of runs that are written while they are made (own).
use Rattle.std.specs.Prelude.{ℕ, ◌≡◌, ◌≤◌, ◌+◌, List, [], ◌∷◌, ◌++◌, length, map, drop}
use Rattle.std.specs.List.{flat_map}
use Rattle.domain_run.specs.Switch.{Switch}
use Rattle.switch_text.specs.Trace.{SwitchesView, Entry, entries_of, trace_of}

-- a run while it is made: the CPU of the machine that is its domain's CPU 0, the names of all its
-- tasks by number, the switches at hand, and those to come
pub record SlicedView : Type 0 where
  pub base : ℕ
  pub names : ℕ → List ℕ
  pub at_hand : List Switch
  pub to_come : List Switch

-- all of it that is not forgotten
abbrev pub whole_of : SlicedView → SwitchesView
whole_of r = record { base = r.base; names = r.names; switches = r.at_hand ++ r.to_come }

abbrev pub wholes : List SlicedView → List SwitchesView
wholes runs = map whole_of runs

-- the entries of several runs, one run after the other
abbrev pub all_entries : List SwitchesView → List Entry
all_entries runs = flat_map entries_of runs

-- the first `count` of the switches at hand are forgotten
abbrev pub without_first : ℕ → SlicedView → SlicedView
without_first count r = record {
  base = r.base;
  names = r.names;
  at_hand = drop count r.at_hand;
  to_come = r.to_come;
}

-- runs with these switches before their own, and these switches alone
abbrev pub with_gone : List (List Switch) → List SwitchesView → List SwitchesView
with_gone [] runs = runs
with_gone (g ∷ gone) [] = []
with_gone (g ∷ gone) (r ∷ runs) =
    record { base = r.base; names = r.names; switches = g ++ r.switches } ∷ with_gone gone runs

abbrev pub gone_of : List (List Switch) → List SwitchesView → List SwitchesView
gone_of [] runs = []
gone_of (g ∷ gone) [] = []
gone_of (g ∷ gone) (r ∷ runs) =
    record { base = r.base; names = r.names; switches = g } ∷ gone_of gone runs

-- what is left of runs: an end of each
pub record AreEndsOf (all left : List SwitchesView) : Type 0 where
  pub gone : List (List Switch)
  pub is : all ≡ with_gone gone left

-- runs that are written as a text and made no further: of what is gone all but a buffer of 64 KiB
-- was written
pub record IsStopped (all left : List SwitchesView) (written : ℕ) : Type 0 where
  pub ends : AreEndsOf all left
  pub near : length (trace_of (gone_of ends.gone left)) ≤ written + 65536
