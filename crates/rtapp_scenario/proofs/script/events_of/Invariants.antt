use Rattle.std.proofs.Common.{◌≡◌, ◌++◌, drop}
use Rattle.std.specs.List.{filter_map}
use Rattle.rtapp_scenario.specs.Values.{members_of}
use Rattle.rtapp_scenario.specs.Threads.{event_of_member}
use Rattle.rtapp_scenario.proofs.script.events_of.Given as goal

abbrev pub invariant-loop-member : goal.invariant-loop-member
invariant-loop-member l = l.events.items ++ filter_map event_of_member (members_of (drop l.member-index l.members)) ≡ filter_map event_of_member (members_of l.members)
