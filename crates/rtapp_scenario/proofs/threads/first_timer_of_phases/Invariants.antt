use Rattle.std.proofs.Common.{◌≡◌, drop, map}
use Rattle.rtapp_scenario.specs.Values.{members_of, members}
use Rattle.rtapp_scenario.specs.Faults.{first}
use Rattle.rtapp_scenario.specs.Threads.{first_timer_in}
use Rattle.rtapp_scenario.proofs.threads.first_timer_of_phases.Given as goal

abbrev pub invariant-loop-phase : goal.invariant-loop-phase
invariant-loop-phase l = first (map (λ phase. first_timer_in (members phase.value)) (members_of (drop l.phase-index l.phases))) ≡ first (map (λ phase. first_timer_in (members phase.value)) (members_of l.phases))
