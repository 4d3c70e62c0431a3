use Rattle.std.proofs.Common.{◌≡◌, List, [], false, sym, subst}
use Rattle.std.specs.Prelude.{All}
use Rattle.edf_pick.specs.declared.candidate.Candidate.{Candidate}
use Rattle.edf_pick.specs.Places.{Places, is_on_cpu}
use Rattle.edf_pick.specs.private.Choosing.{IsChoosing, IsChosen}
use Rattle.edf_pick.specs.private.Ready.{AreAssigned}
use Rattle.edf_pick.proofs.CallerLemmas.{IsNumbered}
use Rattle.edf_pick.proofs.Chosen.{none_chosen, movers_numbered}
use Rattle.edf_pick.proofs.Settled.{picked_places, picked_homes, picked_ready}
use Rattle.edf_pick.proofs.renew.pick_anew.Goals as goal
use Rattle.edf_pick.proofs.renew.pick_anew.Goals.{After-choose_all}

pub choose_all-requires-clause-is : goal.choose_all-requires-clause-is
choose_all-requires-clause-is c =
    subst (λ (ps : Places). IsChoosing c.args.running.now [] c.args.ready_rest.now ps) (sym c.occupants-occupants.ensures.occupants)
    (none_chosen c.args.running.now c.args.ready_rest.now c.args.placement.now c.requires c.as_slice.ensures.rising)

chosen : (c : After-choose_all) → IsChosen c.choose_all.new.running c.choose_all.new.movers c.choose_all.new.ready_rest c.args.placement.now
chosen c = subst (λ (ps : Places). IsChosen c.choose_all.new.running c.choose_all.new.movers c.choose_all.new.ready_rest ps) c.occupants-occupants.ensures.occupants c.choose_all.ensures.is

pub settle_all-requires-clause-numbered : goal.settle_all-requires-clause-numbered
settle_all-requires-clause-numbered c =
    let k = (goal.at.settle_all-requires-clause-numbered c).After-choose_all in
    let new = c.choose_all.new in
    subst (λ (xs : List Candidate). IsNumbered xs) (sym c.as_slice-2.ensures) (movers_numbered new.running new.movers new.ready_rest (chosen k).choosing.numbered)

pub settle_all-requires-clause-away : goal.settle_all-requires-clause-away
settle_all-requires-clause-away c =
    let k = (goal.at.settle_all-requires-clause-away c).After-choose_all in
    subst (λ (xs : List Candidate). All (λ a. is_on_cpu a.number c.args.placement.now ≡ false) xs) (sym c.as_slice-2.ensures) (chosen k).choosing.away

pub returns-clause-places : goal.returns-clause-places
returns-clause-places c =
    let k = (goal.at.returns-clause-places c).After-choose_all in
    let new = c.choose_all.new in
    let assignments = subst (λ (xs : List Candidate). AreAssigned new.running xs c.settle_all.new.running c.settle_all.new.placement) c.as_slice-2.ensures c.settle_all.ensures.assigned in
    sym (picked_places c.args.running.now c.args.ready_rest.now new.running new.movers new.ready_rest c.args.placement.now c.settle_all.new.running c.settle_all.new.placement c.requires c.settle_all.ensures.single c.choose_all.ensures.same (chosen k) assignments)

pub returns-clause-queue : goal.returns-clause-queue
returns-clause-queue c =
    let k = (goal.at.returns-clause-queue c).After-choose_all in
    let new = c.choose_all.new in
    let assignments = subst (λ (xs : List Candidate). AreAssigned new.running xs c.settle_all.new.running c.settle_all.new.placement) c.as_slice-2.ensures c.settle_all.ensures.assigned in
    sym (picked_homes c.args.running.now c.args.ready_rest.now new.running new.movers new.ready_rest c.args.placement.now c.settle_all.new.running c.settle_all.new.placement c.requires c.settle_all.ensures.single c.choose_all.ensures.same (chosen k) assignments)

pub returns-clause-is : goal.returns-clause-is
returns-clause-is c =
    let k = (goal.at.returns-clause-is c).After-choose_all in
    let new = c.choose_all.new in
    let assignments = subst (λ (xs : List Candidate). AreAssigned new.running xs c.settle_all.new.running c.settle_all.new.placement) c.as_slice-2.ensures c.settle_all.ensures.assigned in
    picked_ready c.args.running.now c.args.ready_rest.now new.running new.movers new.ready_rest c.args.placement.now c.settle_all.new.running c.settle_all.new.placement c.requires c.settle_all.ensures.single c.choose_all.ensures.same (chosen k) assignments
