use Rattle.std.proofs.Common.{◌≡◌, ◌++◌, ◌∷◌, [], ◌∙◌, List, Option, Some, length, sym, subst}
use Rattle.std.specs.List.Sorted.{IsPermutation}
use Rattle.edf_pick.specs.declared.candidate.Candidate.{Candidate}
use Rattle.edf_pick.specs.Places.{Places}
use Rattle.edf_pick.specs.private.Choosing.{IsChoosing}
use Rattle.edf_pick.specs.private.Ready.{all_held, AreAssigned}
use Rattle.edf_pick.proofs.Chosen.{none_chosen}
use Rattle.edf_pick.proofs.OneCpu.{FirstHas, first_has_it, only_bare, only_set, none_held}
use Rattle.edf_pick.proofs.Settled.{picked_places, picked_homes, picked_ready}
use Rattle.edf_pick.proofs.single.pick_first.Goals as goal
use Rattle.edf_pick.proofs.single.pick_first.Goals.{After-on_one}

alone : (c : After-on_one) → length c.args.running.now ≡ 1
alone c = c.requires.is.len ∙ c.requires.one

pub stay-requires-clause-bare : goal.stay-requires-clause-bare
stay-requires-clause-bare c = only_bare c.args.running.now (c.requires.is.len ∙ c.requires.one) c.requires.bare

has : (c : After-on_one) → FirstHas c.take_first-c.result c.take_first-c.new.self c.args.placement.now
has c =
    let stays = c.args.running.now in
    let places = c.args.placement.now in
    first_has_it stays c.take_first-c.result c.take_first-c.new.self places c.requires.one c.requires.bare
    (subst (λ (xs : List Candidate). IsChoosing stays [] xs places) c.take_first-c.ensures.first (none_chosen stays c.args.ready_rest.now places c.requires.is c.as_slice.ensures.rising))

same : (c : After-on_one) → IsPermutation (all_held c.args.running.now ++ c.args.ready_rest.now) (all_held (has c).0 ++ ((has c).1 ++ c.take_first-c.new.self))
same c =
    let h = has c in
    subst (λ (xs : List Candidate). IsPermutation (xs ++ c.args.ready_rest.now) (all_held h.0 ++ (h.1 ++ c.take_first-c.new.self))) (sym (none_held c.args.running.now (alone c) c.requires.bare))
    (subst (λ (xs : List Candidate). IsPermutation xs (all_held h.0 ++ (h.1 ++ c.take_first-c.new.self))) (sym c.take_first-c.ensures.first) h.2)

assignments : (c : After-on_one) → AreAssigned (has c).0 (has c).1 c.stay.new.self c.on_one.new.placement
assignments c =
    let h = has c in
    let one : Candidate = record c.take_first-c.result { home = 0 } in
    subst (λ (ps : Places). AreAssigned h.0 h.1 c.stay.new.self ps) (sym c.on_one.ensures.places)
    (subst (λ (ss : List (Option Candidate)). AreAssigned h.0 h.1 ss (Some one.number ∷ [])) (sym (c.stay.ensures ∙ only_set c.args.running.now one (alone c) c.requires.bare)) h.4)

pub returns-clause-places : goal.returns-clause-places
returns-clause-places c =
    let k = (goal.at.returns-clause-places c).After-on_one in
    let h = has k in
    sym (picked_places c.args.running.now c.args.ready_rest.now h.0 h.1 c.take_first-c.new.self c.args.placement.now c.stay.new.self c.on_one.new.placement c.requires.is c.occupants.ensures.single (same k) h.3 (assignments k))

pub returns-clause-queue : goal.returns-clause-queue
returns-clause-queue c =
    let k = (goal.at.returns-clause-queue c).After-on_one in
    let h = has k in
    sym (picked_homes c.args.running.now c.args.ready_rest.now h.0 h.1 c.take_first-c.new.self c.args.placement.now c.stay.new.self c.on_one.new.placement c.requires.is c.occupants.ensures.single (same k) h.3 (assignments k))

pub returns-clause-is : goal.returns-clause-is
returns-clause-is c =
    let k = (goal.at.returns-clause-is c).After-on_one in
    let h = has k in
    picked_ready c.args.running.now c.args.ready_rest.now h.0 h.1 c.take_first-c.new.self c.args.placement.now c.stay.new.self c.on_one.new.placement c.requires.is c.occupants.ensures.single (same k) h.3 (assignments k)
