use Rattle.std.proofs.Common.{◌++◌, ◌∙◌, [], refl, sym, subst}
use Rattle.std.proofs.lemmas.List.Sorted.{IsPermutation-refl}
use Rattle.edf_pick.specs.Places.{Places}
use Rattle.edf_pick.specs.private.Ready.{all_held, AreAssigned}
use Rattle.edf_pick.proofs.Moving.{moved_none}
use Rattle.edf_pick.proofs.Settled.{picked_places, picked_homes}
use Rattle.edf_pick.proofs.Waits.{none_assigned}
use Rattle.edf_pick.proofs.renew.pick_ready.Goals as goal
use Rattle.edf_pick.proofs.renew.pick_ready.Goals.{After-clear}

-- each occupant stays
assignments : (c : After-clear) → AreAssigned c.args.running.now [] c.args.running.now c.args.placement.now
assignments c = subst (λ (ps : Places). AreAssigned c.args.running.now [] c.args.running.now ps) (c.is_still.ensures.same c.if-is_still.true) (none_assigned c.args.running.now c.args.placement.now c.requires.on)

pub returns-then-is_still-clause-places : goal.returns-then-is_still-clause-places
returns-then-is_still-clause-places c =
    let stays = c.args.running.now in
    let ready_rest = c.args.ready_rest.now in
    let places = c.args.placement.now in
    sym (picked_places stays ready_rest stays [] ready_rest places stays places c.requires c.occupants.ensures.single (IsPermutation-refl (all_held stays ++ ready_rest)) (c.is_still.ensures.chosen c.if-is_still.true) (assignments c))

pub returns-then-is_still-clause-queue : goal.returns-then-is_still-clause-queue
returns-then-is_still-clause-queue c =
    let k = (goal.at.returns-then-is_still-clause-queue c).After-clear in
    let stays = c.args.running.now in
    let ready_rest = c.args.ready_rest.now in
    let places = c.args.placement.now in
    sym (picked_homes stays ready_rest stays [] ready_rest places stays places c.requires c.occupants.ensures.single (IsPermutation-refl (all_held stays ++ ready_rest)) (c.is_still.ensures.chosen c.if-is_still.true) (assignments k))

pub returns-then-is_still-clause-moves : goal.returns-then-is_still-clause-moves
returns-then-is_still-clause-moves c = c.clear.ensures ∙ sym (moved_none 0 c.args.placement.now c.args.placement.now (λ cpu. refl))
