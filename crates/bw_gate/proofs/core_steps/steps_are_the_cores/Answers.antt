use Rattle.bw_gate.proofs.Core.{keeps_the_law, takes_as_the_core, regrades_as_the_core, gives_as_the_core, loads_as_the_core, limits_as_the_core}
use Rattle.bw_gate.proofs.core_steps.steps_are_the_cores.Goals as goal

pub returns : goal.returns
returns c = record { law = keeps_the_law; take = takes_as_the_core; regrade = regrades_as_the_core; give = gives_as_the_core; load = loads_as_the_core; limit = limits_as_the_core }
