use Rattle.recorded_workload.proofs.Starts.{delays_are}
use Rattle.recorded_workload.proofs.laws.delays_reach.Goals as goal

pub returns : goal.returns
returns c = record { law = delays_are }
