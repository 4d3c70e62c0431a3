use Rattle.edf_pick.proofs.Left.{none_left}
use Rattle.edf_pick.proofs.leaving.take_elsewhere.Goals as goal

pub returns-in_default : goal.returns-in_default
returns-in_default c = record { left = none_left c.args.c.now c.args.running.now c.args.ready_rest.now c.requires.absent c.in_default.ensures.none }
