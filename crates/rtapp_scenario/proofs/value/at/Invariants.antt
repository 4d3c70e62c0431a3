use Rattle.std.proofs.Common.{◌≡◌, drop}
use Rattle.rtapp_scenario.specs.Values.{at, members_of}
use Rattle.rtapp_scenario.proofs.value.at.Given as goal

abbrev pub invariant-loop-member : goal.invariant-loop-member
invariant-loop-member l = at l.key (members_of (drop l.member-index l.members)) ≡ at l.key (members_of l.members)
