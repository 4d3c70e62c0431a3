-- A cursor some microseconds later and some rounds further on (own).
use Rattle.std.specs.Prelude.{ℕ, Bool, true, false, ◌+◌, ◌*◌, ◌≤◌, Option, Some, None, IfSome}
use Rattle.std.specs.List.{list_any}
use Rattle.task_script.specs.declared.phase.Event.{Event}
use Rattle.task_script.specs.declared.phase.Event.TheVariants.{Run, Sleep, Timer, Wait}
use Rattle.task_script.specs.script.ScriptView.{PhaseView, ScriptView, CursorView, round_len}

-- only a timer reads the reference of a cursor. In a script without a timer the reference never
-- changes, so it is not moved
abbrev pub reads_reference : Event → Bool
reads_reference (Run n) = false
reads_reference (Sleep n) = false
reads_reference (Timer n) = true
reads_reference Wait = false

abbrev pub has_timer : ScriptView → Bool
has_timer s = list_any (λ (p : PhaseView). list_any reads_reference p.events) s.phases

abbrev pub later_reference : Bool → ℕ → ℕ → ℕ
later_reference true k reference = reference + k
later_reference false k reference = reference

-- a number of places further on in a finite script. In a script without end, the place is kept
-- within the first round, and is the same
abbrev pub place_on : Option ℕ → ℕ → ℕ → ℕ
place_on None places place = place
place_on (Some n) places place = place + places

-- k microseconds later, and a number of rounds further on
abbrev pub later_cursor : ℕ → ℕ → CursorView → CursorView
later_cursor k rounds c = record c {
  place = place_on c.script.rounds (rounds * round_len c.script) c.place;
  reference = later_reference (has_timer c.script) k c.reference;
}

-- a number of rounds further on, the place is within the rounds of the script: what comes there is
-- what comes here
abbrev pub HasRounds : ℕ → CursorView → Type 0
HasRounds rounds c =
    IfSome c.script.rounds (λ n. c.place + rounds * round_len c.script ≤ n * round_len c.script)
