use Rattle.recorded_scripts.proofs.Lawful.{reached}
use Rattle.recorded_scripts.proofs.laws.releases_are_reached.Goals as goal

pub returns : goal.returns
returns c = record { law = reached }
