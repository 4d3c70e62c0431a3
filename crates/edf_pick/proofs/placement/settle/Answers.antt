use Rattle.std.proofs.Common.{◌≡◌, false, sym, subst, arith}
use Rattle.std.specs.Prelude.{All}
use Rattle.std.proofs.lemmas.Grind.{common_steps}
use Rattle.edf_pick.specs.Places.{Places, AreSingle, is_on_cpu}
use Rattle.edf_pick.proofs.placement.settle.Goals as goal

pub move_on-changed-requires-clause-away : goal.move_on-changed-requires-clause-away
move_on-changed-requires-clause-away c = subst (λ (ps : Places). All (λ a. is_on_cpu a.number ps ≡ false) c.args.movers.now) (sym c.placement.view_is) c.requires.away

pub returns-clause-single : goal.returns-clause-single
returns-clause-single c = subst (λ (ps : Places). AreSingle ps) c.placement.view_is c.placement.invariant.single

pub list-requires-clause-others : goal.list-requires-clause-others
list-requires-clause-others c = grind (arith, common_steps)

pub list-requires-clause-differ : goal.list-requires-clause-differ
list-requires-clause-differ c = grind (arith, common_steps)
