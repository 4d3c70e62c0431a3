use Rattle.std.proofs.Common.{◌≡◌, drop, map}
use Rattle.rtapp_scenario.specs.Values.{members_of}
use Rattle.rtapp_scenario.specs.Faults.{first}
use Rattle.rtapp_scenario.specs.Threads.{timer_at}
use Rattle.rtapp_scenario.proofs.threads.first_timer_in.Given as goal

abbrev pub invariant-loop-member : goal.invariant-loop-member
invariant-loop-member l = first (map timer_at (members_of (drop l.member-index l.members))) ≡ first (map timer_at (members_of l.members))
