use Rattle.repeat_run.proofs.Alike.{found_alike}
use Rattle.repeat_run.proofs.law.found_goes_on.Goals as goal

pub returns : goal.returns
returns c =
    let laws = c.repeats_go_on.ensures in
    λ k most p seen paces d f more. found_alike laws.after laws.lasts laws.has_logged laws.switches laws.found laws.has_periods k most p seen paces d f more
