use Rattle.std.proofs.Common.{◌≡◌, ◌≤◌, drop, take, [], count_by}
use Rattle.rtapp_scenario.specs.Values.{members_of}
use Rattle.rtapp_scenario.specs.Faults.{first_fault_in}
use Rattle.rtapp_scenario.specs.Keys.{is_event}
use Rattle.rtapp_scenario.specs.Tests.{phase_member_fault}
use Rattle.rtapp_scenario.specs.FaultText.{ref_seen}
use Rattle.rtapp_scenario.proofs.phases.check_phase_members.Given as goal

abbrev pub invariant-loop-member : goal.invariant-loop-member
invariant-loop-member l = record {
  few : l.events ≤ 64;
  count : count_by is_event (members_of (take l.member-index l.members)) ≡ l.events;
  order : first_fault_in (phase_member_fault (ref_seen l.first_ref)) (members_of (take l.member-index l.members)) (members_of (drop l.member-index l.members)) ≡ first_fault_in (phase_member_fault (ref_seen l.first_ref)) [] (members_of l.members);
}
