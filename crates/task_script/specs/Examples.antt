-- Worked rows of scripts.
use Rattle.std.specs.Prelude.{ℕ, ◌≡◌, List, [], ◌∷◌, Option, Some, None, refl}
use Rattle.task_script.specs.script.ScriptView.{ScriptView}
use Rattle.task_script.specs.script.Unrolled.{round_of, event_at}
use Rattle.task_script.specs.script.Segments.{begun_at, next_segment, segments}
use Rattle.task_script.specs.declared.phase.Event.{Event}
use Rattle.task_script.specs.declared.phase.Event.TheVariants as event
use Rattle.task_script.specs.declared.script.Segment.TheVariants.{Run, Until, Wait, End}

-- one phase, played once a round, so many rounds, one, or for ever
abbrev pub rounds : Option ℕ → List Event → ScriptView
rounds n events = record { rounds = n; phases = record { count = 1; events = events } ∷ [] }

abbrev pub once : List Event → ScriptView
once events = rounds (Some 1) events

abbrev pub forever : List Event → ScriptView
forever events = rounds None events

-- TIMER CURSOR: 4 us of work, then the end of each 8
abbrev timer : ScriptView
timer = forever (event.Run 4 ∷ event.Timer 8 ∷ [])

-- at 20 the period that began at 8 is over, so the reference becomes 20
timer_cursor : segments next_segment (begun_at timer 0) (0 ∷ 4 ∷ 8 ∷ 20 ∷ 24 ∷ [])
    ≡ Run 4 ∷ Until 8 ∷ Run 4 ∷ Run 4 ∷ Until 28 ∷ []
timer_cursor = refl

-- two rounds of two phases, the first played twice; then the end, for good
abbrev two_phases : ScriptView
two_phases = record {
  rounds = Some 2;
  phases =
      record { count = 2; events = event.Run 3 ∷ event.Sleep 7 ∷ [] }
      ∷ record { count = 1; events = event.Wait ∷ [] } ∷ [];
}

round : round_of two_phases.phases
    ≡ event.Run 3 ∷ event.Sleep 7 ∷ event.Run 3 ∷ event.Sleep 7 ∷ event.Wait ∷ []
round = refl

-- the last place of its two rounds, and the next
last : event_at two_phases 9 ≡ Some event.Wait
last = refl

past : event_at two_phases 10 ≡ None
past = refl

-- without end each round is like the one before
for_ever : event_at timer 1001 ≡ Some (event.Timer 8)
for_ever = refl

unrolled : segments next_segment (begun_at two_phases 0)
    (0 ∷ 1 ∷ 8 ∷ 9 ∷ 16 ∷ 20 ∷ 21 ∷ 28 ∷ 29 ∷ 36 ∷ 40 ∷ 41 ∷ [])
    ≡ Run 3 ∷ Until 8 ∷ Run 3 ∷ Until 16 ∷ Wait ∷ Run 3 ∷ Until 28 ∷ Run 3 ∷ Until 36 ∷ Wait ∷ End
    ∷ End ∷ []
unrolled = refl
