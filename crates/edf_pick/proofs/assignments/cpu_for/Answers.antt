use Rattle.std.proofs.Common.{◌∙◌, sym}
use Rattle.edf_pick.proofs.OnCpu.{free_inside}
use Rattle.edf_pick.proofs.assignments.cpu_for.Goals as goal

pub returns-then-is_free-clause-within : goal.returns-then-is_free-clause-within
returns-then-is_free-clause-within c = free_inside c.args.places.now c.args.c.now.home (sym c.is_free.ensures ∙ c.if-is_free.true)
