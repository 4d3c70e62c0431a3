-- A script written out: a list of events by place (own; rt-app's phases and loops).
use Rattle.std.specs.Prelude.{ℕ, ◌+◌, List, slice_get, Option, Some, None}
use Rattle.std.specs.List.{flat_map, repeat}
use Rattle.task_script.specs.declared.phase.Event.{Event}
use Rattle.task_script.specs.script.ScriptView.{PhaseView, ScriptView}

-- a round: the phases one behind the other, the events of each so many times over
abbrev pub round_of : List PhaseView → List Event
round_of phases = flat_map (λ (p : PhaseView). repeat p.count p.events) phases

-- how many rounds there are; without end there are as many as a place needs
abbrev pub rounds_for : Option ℕ → ℕ → ℕ
rounds_for None place = place + 1
rounds_for (Some n) place = n

-- the event at a place of the rounds, one behind the other; none past the last
abbrev pub event_at : ScriptView → ℕ → Option Event
event_at s place = slice_get (repeat (rounds_for s.rounds place) (round_of s.phases)) place
