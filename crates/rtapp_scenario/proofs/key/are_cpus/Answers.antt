use Rattle.rtapp_scenario.proofs.Cpus.{none_marked}
use Rattle.rtapp_scenario.proofs.key.are_cpus.Goals as goal

pub are_new_cpus-requires : goal.are_new_cpus-requires
are_new_cpus-requires c = none_marked
