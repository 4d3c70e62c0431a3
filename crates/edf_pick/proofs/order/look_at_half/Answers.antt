use Rattle.edf_pick.proofs.Searching.{search_half}
use Rattle.edf_pick.proofs.order.look_at_half.Goals as goal

pub returns : goal.returns
returns c = λ width fits is. search_half c.args.c.now c.args.queue.now c.args.place width c.requires.rising is c.args.half c.one_before.result fits c.requires.there c.one_before.ensures
