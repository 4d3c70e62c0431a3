use Rattle.std.proofs.Common.{◌≡◌, drop, map}
use Rattle.rtapp_scenario.specs.Values.{members_of}
use Rattle.rtapp_scenario.specs.Faults.{first}
use Rattle.rtapp_scenario.specs.Tests.{phase_fault}
use Rattle.rtapp_scenario.specs.FaultText.{ref_seen}
use Rattle.rtapp_scenario.proofs.phases.check_each_phase.Given as goal

abbrev pub invariant-loop-phase : goal.invariant-loop-phase
invariant-loop-phase l = first (map (phase_fault (ref_seen l.first_ref)) (members_of (drop l.phase-index l.phases))) ≡ first (map (phase_fault (ref_seen l.first_ref)) (members_of l.phases))
