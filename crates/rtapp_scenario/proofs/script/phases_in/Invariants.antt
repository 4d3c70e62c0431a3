use Rattle.std.proofs.Common.{◌≡◌, ◌++◌, drop, map}
use Rattle.rtapp_scenario.specs.Values.{members_of}
use Rattle.rtapp_scenario.specs.Scenario.{member_phase}
use Rattle.rtapp_scenario.proofs.script.phases_in.Given as goal

abbrev pub invariant-loop-phase : goal.invariant-loop-phase
invariant-loop-phase l = l.made.items ++ map member_phase (members_of (drop l.phase-index l.phases)) ≡ map member_phase (members_of l.phases)
