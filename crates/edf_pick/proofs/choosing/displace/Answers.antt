use Rattle.std.proofs.Common.{◌≡◌, ◌<◌, ◌+◌, ◌++◌, ◌∙◌, List, ◌∷◌, Option, None, true, length, get_or, set, sym, ap, subst, arith}
use Rattle.std.specs.List.Sorted.{IsPermutation}
use Rattle.std.proofs.lemmas.List.Sorted.{IsPermutation-trans}
use Rattle.edf_pick.specs.declared.candidate.Candidate.{Candidate}
use Rattle.edf_pick.specs.Choice.{is_before}
use Rattle.edf_pick.specs.Order.{with_candidate}
use Rattle.edf_pick.specs.private.Choosing.{chosen_stays, chosen_movers, IsChoosing, total}
use Rattle.edf_pick.specs.private.RunningSet.{bare_key}
use Rattle.edf_pick.specs.private.Ready.{all_held}
use Rattle.edf_pick.proofs.Before.{key}
use Rattle.edf_pick.proofs.Chosen.{home_bare, chosen_same, chosen_is, chosen_busy, chosen_total, key_below, released_same, last_absent, released_is, released_total}
use Rattle.edf_pick.proofs.Stays.{count_less}
use Rattle.std.specs.Prelude.{is_some}
use Rattle.edf_pick.proofs.choosing.displace.Goals as goal
use Rattle.edf_pick.proofs.choosing.displace.Goals.{After-off, After-choose}

first_is : (c : After-off) → IsChoosing c.args.running.now c.args.movers.now (c.take_first-c.result ∷ c.take_first-c.new.self) c.args.places.now
first_is c = subst (λ (xs : List Candidate). IsChoosing c.args.running.now c.args.movers.now xs c.args.places.now) c.take_first-c.ensures.first c.requires.is

before : (c : After-off) → is_before c.take_first-c.result c.args.last ≡ true
before c = subst (λ (xs : List Candidate). is_before (get_or xs 0 bare_key) c.args.last ≡ true) c.take_first-c.ensures.first c.requires.first

-- who was displaced waits
abbrev rest : (c : After-off) → List Candidate
rest c = with_candidate c.args.last c.take_first-c.new.self

abbrev fewer : (c : After-off) → List (Option Candidate)
fewer c = set c.args.running.now c.args.last.home None

then_is : (c : After-off) → IsChoosing (fewer c) c.args.movers.now (c.take_first-c.result ∷ rest c) c.args.places.now
then_is c = released_is c.args.running.now c.args.movers.now c.take_first-c.new.self c.args.places.now c.take_first-c.result c.args.last (first_is c) c.requires.there (before c)

one_less : (c : After-off) → length (all_held (fewer c)) + 1 ≡ length (all_held c.args.running.now)
one_less c = count_less c.args.running.now c.args.last.home (ap (λ (o : Option Candidate). is_some o) c.requires.there)

pub insert-requires-clause-absent : goal.insert-requires-clause-absent
insert-requires-clause-absent c = last_absent c.args.running.now c.args.movers.now c.take_first-c.new.self c.args.places.now c.take_first-c.result c.args.last (first_is (goal.at.insert-requires-clause-absent c).After-off) c.requires.there

pub choose-requires-clause-few : goal.choose-requires-clause-few
choose-requires-clause-few c =
    let k = (goal.at.choose-requires-clause-few c).After-off in
    let less = one_less k in
    omega (arith, less, c.requires.few, c.requires.is.few)

pub choose-requires-clause-bare : goal.choose-requires-clause-bare
choose-requires-clause-bare c = λ home.
    let k = (goal.at.choose-requires-clause-bare c).After-off in
    ap (λ (ss : List (Option Candidate)). get_or ss c.take_first-c.result.home None) c.off.ensures ∙ home_bare (fewer k) c.args.movers.now (rest k) c.args.places.now c.take_first-c.result (then_is k) home

-- who stays, and who moves
stays_are : (c : After-choose) (k : After-off) → c.choose.new.running ≡ chosen_stays c.args.places.now c.take_first-c.result (set c.args.running.now c.args.last.home None)
stays_are c k = c.choose.ensures.running ∙ ap (λ (ss : List (Option Candidate)). chosen_stays c.args.places.now c.take_first-c.result ss) c.off.ensures

pub returns-clause-is : goal.returns-clause-is
returns-clause-is c =
    let k = (goal.at.returns-clause-is c).After-off in
    let movers = c.args.movers.now in
    let places = c.args.places.now in
    let one = c.take_first-c.result in
    let less = one_less k in
    subst (λ (xs : List Candidate). IsChoosing c.choose.new.running c.choose.new.movers xs places) (sym c.insert.ensures)
    (subst (λ (xs : List Candidate). IsChoosing c.choose.new.running xs (rest k) places) (sym c.choose.ensures.movers)
    (subst (λ (ss : List (Option Candidate)). IsChoosing ss (chosen_movers places one movers) (rest k) places) (sym (stays_are c k))
    (chosen_is (fewer k) movers (rest k) places one (then_is k) (omega (arith, less, c.requires.is.few)))))

pub returns-clause-same : goal.returns-clause-same
returns-clause-same c =
    let k = (goal.at.returns-clause-same c).After-off in
    let stays = c.args.running.now in
    let movers = c.args.movers.now in
    let places = c.args.places.now in
    let one = c.take_first-c.result in
    let first = c.take_first-c.new.self in
    let all = all_held stays ++ (movers ++ one ∷ first) in
    subst (λ (xs : List Candidate). IsPermutation (all_held stays ++ (movers ++ xs)) (all_held c.choose.new.running ++ (c.choose.new.movers ++ c.insert.new.self))) (sym c.take_first-c.ensures.first)
    (subst (λ (xs : List Candidate). IsPermutation all (all_held c.choose.new.running ++ (c.choose.new.movers ++ xs))) (sym c.insert.ensures)
    (subst (λ (xs : List Candidate). IsPermutation all (all_held c.choose.new.running ++ (xs ++ rest k))) (sym c.choose.ensures.movers)
    (subst (λ (ss : List (Option Candidate)). IsPermutation all (all_held ss ++ (chosen_movers places one movers ++ rest k))) (sym (stays_are c k))
    (IsPermutation-trans all (all_held (fewer k) ++ (movers ++ one ∷ rest k)) (all_held (chosen_stays places one (fewer k)) ++ (chosen_movers places one movers ++ rest k))
    (released_same stays movers first one c.args.last c.requires.there)
    (chosen_same (fewer k) movers (rest k) places one (then_is k))))))

pub returns-clause-busy : goal.returns-clause-busy
returns-clause-busy c =
    let k = (goal.at.returns-clause-busy c).After-off in
    let movers = c.args.movers.now in
    let places = c.args.places.now in
    let one = c.take_first-c.result in
    let less = one_less k in
    let more = chosen_busy (fewer k) movers (rest k) places one (then_is k) in
    ap (λ (ss : List (Option Candidate)). length (all_held ss) + length c.choose.new.movers) (stays_are c k)
    ∙ ap (λ (xs : List Candidate). length (all_held (chosen_stays places one (fewer k))) + length xs) c.choose.ensures.movers
    ∙ more ∙ omega (arith, less)

pub returns-clause-earlier : goal.returns-clause-earlier
returns-clause-earlier c =
    let k = (goal.at.returns-clause-earlier c).After-off in
    let stays = c.args.running.now in
    let movers = c.args.movers.now in
    let places = c.args.places.now in
    let one = c.take_first-c.result in
    let new : total (all_held c.choose.new.running ++ c.choose.new.movers) ≡ total (all_held (fewer k) ++ movers) + key one = ap (λ (ss : List (Option Candidate)). total (all_held ss ++ c.choose.new.movers)) (stays_are c k)
    ∙ ap (λ (xs : List Candidate). total (all_held (chosen_stays places one (fewer k)) ++ xs)) c.choose.ensures.movers
    ∙ chosen_total (fewer k) movers (rest k) places one (then_is k) in
    let old : total (all_held (fewer k) ++ movers) + key c.args.last ≡ total (all_held stays ++ movers) = released_total stays movers c.args.last c.requires.there in
    let less : key one < key c.args.last = key_below one c.args.last (omega arith) (before k) in
    omega (arith, new, old, less)
