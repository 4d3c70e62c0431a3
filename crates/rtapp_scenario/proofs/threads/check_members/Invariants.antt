use Rattle.std.proofs.Common.{◌≡◌, ◌≤◌, drop, take, []}
use Rattle.rtapp_scenario.specs.Values.{members_of}
use Rattle.rtapp_scenario.specs.Faults.{first_fault_in}
use Rattle.rtapp_scenario.specs.Tests.{thread_member_fault}
use Rattle.rtapp_scenario.specs.FaultText.{ref_seen}
use Rattle.rtapp_scenario.specs.private.Before.{IsBefore}
use Rattle.rtapp_scenario.proofs.threads.check_members.Given as goal

abbrev pub invariant-loop-member : goal.invariant-loop-member
invariant-loop-member l = record {
  few : l.before.events ≤ 64;
  seen : IsBefore (members_of (take l.member-index l.members)) l.before;
  order : first_fault_in (thread_member_fault (ref_seen l.first_ref)) (members_of (take l.member-index l.members)) (members_of (drop l.member-index l.members)) ≡ first_fault_in (thread_member_fault (ref_seen l.first_ref)) [] (members_of l.members);
}
