use Rattle.switch_text.proofs.Kept.{middles_made}
use Rattle.switch_text.proofs.ready.all_middles.Goals as goal

pub returns : goal.returns
returns c = middles_made _ _ _ _ c.middle_of-running.ensures c.middle_of-preempted.ensures c.middle_of-sleeping.ensures c.middle_of-dead.ensures
