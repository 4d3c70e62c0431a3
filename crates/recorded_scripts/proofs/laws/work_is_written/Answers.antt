use Rattle.recorded_scripts.proofs.Lawful.{work_written_is}
use Rattle.recorded_scripts.proofs.laws.work_is_written.Goals as goal

pub returns : goal.returns
returns c = record { law = work_written_is }
