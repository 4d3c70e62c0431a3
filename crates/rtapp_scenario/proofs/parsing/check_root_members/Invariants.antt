use Rattle.std.proofs.Common.{◌≡◌, drop, map}
use Rattle.rtapp_scenario.specs.Values.{members_of}
use Rattle.rtapp_scenario.specs.Faults.{first}
use Rattle.rtapp_scenario.specs.Tests.{root_member_fault}
use Rattle.rtapp_scenario.proofs.parsing.check_root_members.Given as goal

abbrev pub invariant-loop-member : goal.invariant-loop-member
invariant-loop-member l = first (map root_member_fault (members_of (drop l.member-index l.members))) ≡ first (map root_member_fault (members_of l.members))
