use Rattle.std.proofs.Common.{◌++◌, List, ◌∷◌, Option, sym, subst}
use Rattle.std.specs.List.Sorted.{IsPermutation}
use Rattle.edf_pick.specs.declared.candidate.Candidate.{Candidate}
use Rattle.edf_pick.specs.private.Choosing.{chosen_movers, IsChoosing}
use Rattle.edf_pick.specs.private.Ready.{all_held}
use Rattle.edf_pick.proofs.Chosen.{home_bare, chosen_same, chosen_is}
use Rattle.edf_pick.proofs.choosing.choose_first.Goals as goal
use Rattle.edf_pick.proofs.choosing.choose_first.Goals.{After-take_first-c}

first_is : (c : After-take_first-c) → IsChoosing c.args.running.now c.args.movers.now (c.take_first-c.result ∷ c.take_first-c.new.self) c.args.places.now
first_is c = subst (λ (xs : List Candidate). IsChoosing c.args.running.now c.args.movers.now xs c.args.places.now) c.take_first-c.ensures.first c.requires.is

pub choose-requires-clause-bare : goal.choose-requires-clause-bare
choose-requires-clause-bare c = λ home. home_bare c.args.running.now c.args.movers.now c.take_first-c.new.self c.args.places.now c.take_first-c.result (first_is (goal.at.choose-requires-clause-bare c).After-take_first-c) home

pub returns-clause-is : goal.returns-clause-is
returns-clause-is c =
    let k = (goal.at.returns-clause-is c).After-take_first-c in
    let stays = c.args.running.now in
    let movers = c.args.movers.now in
    let places = c.args.places.now in
    let rest = c.take_first-c.new.self in
    let one = c.take_first-c.result in
    subst (λ (xs : List Candidate). IsChoosing c.choose.new.running xs rest places) (sym c.choose.ensures.movers)
    (subst (λ (ss : List (Option Candidate)). IsChoosing ss (chosen_movers places one movers) rest places) (sym c.choose.ensures.running) (chosen_is stays movers rest places one (first_is k) c.requires.free))

pub returns-clause-same : goal.returns-clause-same
returns-clause-same c =
    let k = (goal.at.returns-clause-same c).After-take_first-c in
    let stays = c.args.running.now in
    let movers = c.args.movers.now in
    let places = c.args.places.now in
    let rest = c.take_first-c.new.self in
    let one = c.take_first-c.result in
    subst (λ (xs : List Candidate). IsPermutation (all_held stays ++ (movers ++ xs)) (all_held c.choose.new.running ++ (c.choose.new.movers ++ rest))) (sym c.take_first-c.ensures.first)
    (subst (λ (xs : List Candidate). IsPermutation (all_held stays ++ (movers ++ one ∷ rest)) (all_held c.choose.new.running ++ (xs ++ rest))) (sym c.choose.ensures.movers)
    (subst (λ (ss : List (Option Candidate)). IsPermutation (all_held stays ++ (movers ++ one ∷ rest)) (all_held ss ++ (chosen_movers places one movers ++ rest))) (sym c.choose.ensures.running) (chosen_same stays movers rest places one (first_is k))))
