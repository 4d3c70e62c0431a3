-- The lines of runs, without the header: what goes out after what waits. The trace text knows
-- nothing of these words.
use Rattle.std.specs.Prelude.{ℕ, zero, suc, ◌≡◌, ◌+◌, ◌*◌, ◌<◌, ◌≤◌, nat_lt, not, Bool, true, false, if◌then◌else◌, List, [], ◌∷◌, ◌++◌, length, map, filter, All, Option, Some, None, IfSome}
use Rattle.std.specs.List.{flat_map, AllByRecursion}
use Rattle.domain_run.specs.Switch.{Switch}
use Rattle.switch_text.specs.declared.run.Run.{Run}
use Rattle.switch_text.specs.Names.{name_of_task, SameNames}
use Rattle.switch_text.specs.Runs.{IsPrintable}
use Rattle.switch_text.specs.Trace.{SwitchesView, entries_of, entries_in_order, text_of_entries, trace_of}
use Rattle.switch_text.specs.SlicedTrace.{SlicedView, all_entries}
use Rattle.switch_text.specs.private.Merging.{entries_left}
use Rattle.switch_text.specs.private.Sending.{Sends}

abbrev pub lines_in : List SwitchesView → List ℕ
lines_in runs = text_of_entries (entries_in_order (flat_map entries_of runs))

-- of each run from its place on
abbrev pub lines_from : List SwitchesView → List ℕ → List ℕ
lines_from runs places = text_of_entries (entries_in_order (entries_left runs places))

-- after a first text the lines of runs go out: so many bytes did, these wait, and the others are
-- still to be made
pub record IsSending (before after : Option (List ℕ)) (first : List ℕ) (runs : List SwitchesView)
    (places : List ℕ) (sent : ℕ) (waiting : List ℕ) : Type 0 where
  pub sends : Sends before after (first ++ lines_in runs) sent (waiting ++ lines_from runs places)
  pub bound : sent + length waiting + 512 * length (entries_left runs places)
      ≤ length first + 512 * length (flat_map entries_of runs)

-- ---- a cut in time: what is before a time, and all where there is none

abbrev pub is_before_cut : Option ℕ → ℕ → Bool
is_before_cut None time = true
is_before_cut (Some cut) time = nat_lt time cut

abbrev pub switches_before : Option ℕ → List Switch → List Switch
switches_before cut switches = filter (λ s. is_before_cut cut s.time) switches

abbrev pub switches_from_cut : Option ℕ → List Switch → List Switch
switches_from_cut cut switches = filter (λ s. not (is_before_cut cut s.time)) switches

-- of the switches at hand those before the cut
abbrev pub run_before : Option ℕ → SlicedView → SwitchesView
run_before cut r =
    record { base = r.base; names = r.names; switches = switches_before cut r.at_hand }

abbrev pub runs_before : Option ℕ → List SlicedView → List SwitchesView
runs_before cut runs = map (run_before cut) runs

-- the run without them
abbrev pub run_from_cut : Option ℕ → SlicedView → SlicedView
run_from_cut cut r = record {
  base = r.base;
  names = r.names;
  at_hand = switches_from_cut cut r.at_hand;
  to_come = r.to_come;
}

abbrev pub runs_from_cut : Option ℕ → List SlicedView → List SlicedView
runs_from_cut cut runs = map (run_from_cut cut) runs

-- those before the cut are the first ones
abbrev pub IsSplit : Option ℕ → SlicedView → Type 0
IsSplit cut r = r.at_hand ≡ switches_before cut r.at_hand ++ switches_from_cut cut r.at_hand

-- nothing that is to come is before the cut
abbrev pub IsFinal : Option ℕ → SlicedView → Type 0
IsFinal cut r = AllByRecursion (λ s. is_before_cut cut s.time ≡ false) r.to_come

-- and if there is a cut, a switch at hand is before it
pub record AreCutAt (cut : Option ℕ) (runs : List SlicedView) : Type 0 where
  pub final : AllByRecursion (IsFinal cut) runs
  pub some : IfSome cut (λ _. 0 < length (all_entries (runs_before cut runs)))

-- the earlier of two times, of which each may be missing
abbrev pub earlier_of : Option ℕ → Option ℕ → Option ℕ
earlier_of None b = b
earlier_of (Some a) None = Some a
earlier_of (Some a) (Some b) = if nat_lt b a then Some b else Some a

-- how the tasks of a run, by its place among the runs, are named
abbrev pub names_by : List SwitchesView → ℕ → ℕ → List ℕ
names_by [] i = λ number. []
names_by (r ∷ runs) zero = r.names
names_by (r ∷ runs) (suc i) = names_by runs i

-- of the trace of runs so many bytes went out, these wait, and the lines of what is left are still
-- to be made
pub record IsSlicing (before after : Option (List ℕ)) (all left : List SwitchesView) (sent : ℕ)
    (waiting : List ℕ) : Type 0 where
  pub sends : Sends before after (trace_of all) sent (waiting ++ lines_in left)
  pub bound : sent + length waiting + 512 * length (all_entries left)
      ≤ 14 + 512 * length (all_entries all)

-- those of a run at hand that are before the cut, as they are written
pub record IsFront (cut : Option ℕ) (r : SlicedView) (run : Run) : Type 0 where
  pub printable : IsPrintable run
  pub base : run.base ≡ r.base
  pub switches : run.switches.now ≡ switches_before cut r.at_hand
  pub names : All (SameNames (name_of_task run.names.now) r.names) run.switches.now
