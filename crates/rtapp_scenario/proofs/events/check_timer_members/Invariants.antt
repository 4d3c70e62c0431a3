use Rattle.std.proofs.Common.{◌≡◌, drop, take, []}
use Rattle.rtapp_scenario.specs.Values.{members_of}
use Rattle.rtapp_scenario.specs.Faults.{first_fault_in}
use Rattle.rtapp_scenario.specs.Tests.{timer_member_fault}
use Rattle.rtapp_scenario.specs.FaultText.{ref_seen}
use Rattle.rtapp_scenario.proofs.events.check_timer_members.Given as goal

abbrev pub invariant-loop-member : goal.invariant-loop-member
invariant-loop-member l = first_fault_in (timer_member_fault (ref_seen l.first_ref)) (members_of (take l.member-index l.members)) (members_of (drop l.member-index l.members)) ≡ first_fault_in (timer_member_fault (ref_seen l.first_ref)) [] (members_of l.members)
