use Rattle.std.proofs.Common.{◌≡◌, drop}
use Rattle.rtapp_scenario.specs.Values.{members_of}
use Rattle.rtapp_scenario.specs.Threads.{has_event}
use Rattle.rtapp_scenario.proofs.threads.has_event.Given as goal

abbrev pub invariant-loop-member : goal.invariant-loop-member
invariant-loop-member l = has_event (members_of (drop l.member-index l.members)) ≡ has_event (members_of l.members)
