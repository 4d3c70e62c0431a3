-- The threads of a line in memory, as the definitions see them.
use Rattle.std.specs.Prelude.{◌<◌, ◌^◌}
use Rattle.std.specs.Option.{option_map}
use Rattle.recorded_text.specs.declared.event.Thread.{Thread}
use Rattle.recorded_text.specs.declared.event.Leaver.{Leaver}
use Rattle.recorded_text.specs.declared.event.Threads.{Threads}
use Rattle.recorded_text.specs.declared.event.Event.{Event}
use Rattle.recorded_text.specs.declared.event.Event.TheVariants as events
use Rattle.recorded_text.specs.Threads.{ThreadView, LeaverView, ThreadsView, EventView, NoEvent, BadEvent, Switched, Woken}

abbrev pub thread_view : Thread → ThreadView
thread_view t = record { name = t.name.now; pid = t.pid; below = t.below }

abbrev pub leaver_view : Leaver → LeaverView
leaver_view l = record { name = l.name.now; pid = l.pid; state = l.state.now }

abbrev pub threads_view : Threads → ThreadsView
threads_view t =
    record { leaves = option_map leaver_view t.leaves; comes = thread_view t.comes }

abbrev pub event_view : Event → EventView
event_view events.Other = NoEvent
event_view events.Bad = BadEvent
event_view (events.Switch time cpu threads) = Switched time cpu (option_map threads_view threads)
event_view (events.Wake time thread) = Woken time (thread_view thread)

-- a time is below 2^61, since seconds are below 2^40
abbrev pub IsSmallEvent : Event → Type 0
IsSmallEvent events.Other = Unit {0}
IsSmallEvent events.Bad = Unit {0}
IsSmallEvent (events.Switch time cpu threads) = time < 2 ^ 61
IsSmallEvent (events.Wake time thread) = time < 2 ^ 61
