use Rattle.repeat_run.proofs.Comparing.{found_gives}
use Rattle.repeat_run.proofs.law.found_gives.Goals as goal

pub returns : goal.returns
returns c =
    let laws = c.repeats_go_on.ensures in
    λ k most seen paces d f. found_gives laws.shifted laws.repeats laws.lasts laws.found laws.has_periods k most seen paces d f
