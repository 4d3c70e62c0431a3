use Rattle.std.proofs.Common.{◌≡◌, ◌∙◌, None, false, get_or, sym, ap, subst, arith, inl, inr}
use Rattle.std.specs.Prelude.{All}
use Rattle.std.specs.Int.{bit_at}
use Rattle.std.proofs.lemmas.Grind.{common_steps}
use Rattle.edf_pick.specs.Places.{Places, AreSingle, is_on_cpu, count_occupant}
use Rattle.edf_pick.specs.private.Ready.{running_places, AreOn}
use Rattle.edf_pick.proofs.Occupants.{single_all}
use Rattle.edf_pick.proofs.Settled.{either, kept_are, same_there, other_there}
use Rattle.edf_pick.proofs.Waits.{none_assigned, stays_absent, stays_single}
use Rattle.edf_pick.proofs.settling.move_on.Goals as goal
use Rattle.edf_pick.proofs.settling.move_on.Goals.{After-clear-kept}

kept : (c : After-clear-kept) → c.clear-kept.new.places.items ≡ running_places c.args.running.now
kept c =
    let len = c.clear-kept.ensures.len in
    kept_are c.args.running.now c.args.places.now.items c.clear-kept.new.places.items c.marks.result c.args.taken.now c.beyond.result c.requires.on (omega (arith, c.requires.len)) (omega (arith, len)) c.marks.ensures c.requires.taken
    c.beyond.ensures.only c.beyond.ensures.bare c.clear-kept.ensures.gone c.clear-kept.ensures.others

pub assign_all-now-requires-clause-same : goal.assign_all-now-requires-clause-same
assign_all-now-requires-clause-same c = kept (goal.at.assign_all-now-requires-clause-same c).After-clear-kept

pub assign_all-now-requires-clause-on : goal.assign_all-now-requires-clause-on
assign_all-now-requires-clause-on c =
    let k = (goal.at.assign_all-now-requires-clause-on c).After-clear-kept in
    let stays = c.args.running.now in
    subst (λ (ps : Places). AreOn stays ps) (sym (kept k)) (none_assigned stays c.args.places.now.items c.requires.on).on

pub assign_all-now-requires-clause-away : goal.assign_all-now-requires-clause-away
assign_all-now-requires-clause-away c =
    let k = (goal.at.assign_all-now-requires-clause-away c).After-clear-kept in
    let stays = c.args.running.now in
    let movers = c.args.movers.now in
    subst (λ (ps : Places). All (λ c. is_on_cpu c.number ps ≡ false) movers) (sym (kept k)) (λ i d h. stays_absent stays c.args.places.now.items (get_or movers i d).number c.requires.on (c.requires.away i d h))

pub returns-clause-single : goal.returns-clause-single
returns-clause-single c =
    let stays = c.args.running.now in
    subst (λ (ps : Places). AreSingle ps) (sym c.assign_all-now.ensures.assigned.assigned) (single_all c.args.movers.now (running_places stays) (stays_single stays c.args.places.now.items c.requires.on c.requires.single))

pub returns-clause-changed : goal.returns-clause-changed
returns-clause-changed c = λ cpu e.
    let k = (goal.at.returns-clause-changed c).After-clear-kept in
    let mid : count_occupant (get_or c.clear-kept.new.places.items cpu None) ≡ count_occupant (get_or (running_places c.args.running.now) cpu None) = ap (λ (ps : Places). count_occupant (get_or ps cpu None)) (kept k) in
    same_there c.args.running.now c.args.movers.now c.args.places.now.items c.assign_all-now.new.places.items cpu c.requires.on c.assign_all-now.ensures.assigned.assigned
    (λ none. sym (c.requires.taken cpu) ∙ c.beyond-2.ensures.bare cpu (c.both.ensures.first cpu e) (c.clear-kept.ensures.taken cpu ∙ mid ∙ none))
    (λ none. sym (c.assign_all-now.ensures.taken cpu) ∙ c.beyond-3.ensures.bare cpu (c.both.ensures.second cpu e) (c.clear-kept.ensures.taken cpu ∙ mid ∙ none))

pub returns-clause-differ : goal.returns-clause-differ
returns-clause-differ c = λ cpu e.
    let k = (goal.at.returns-clause-differ c).After-clear-kept in
    let mid : count_occupant (get_or c.clear-kept.new.places.items cpu None) ≡ count_occupant (get_or (running_places c.args.running.now) cpu None) = ap (λ (ps : Places). count_occupant (get_or ps cpu None)) (kept k) in
    let word = either c.beyond-2.result c.beyond-3.result c.both.result cpu (c.both.ensures.only cpu) e in
    let bare : bit_at c.clear-kept.result cpu ≡ 0 = elim word [ inl went ↦ c.beyond-2.ensures.only cpu went | inr came ↦ c.beyond-3.ensures.only cpu came ] in
    other_there c.args.running.now c.args.movers.now c.args.places.now.items c.assign_all-now.new.places.items cpu c.requires.away c.assign_all-now.ensures.assigned.assigned
    (sym mid ∙ sym (c.clear-kept.ensures.taken cpu) ∙ bare)
    (elim word [
      | inl went ↦ inl (sym (c.requires.taken cpu) ∙ c.beyond-2.ensures.here cpu went)
      | inr came ↦ inr (sym (c.assign_all-now.ensures.taken cpu) ∙ c.beyond-3.ensures.here cpu came)
    ])

pub clear-kept-requires-clause-within : goal.clear-kept-requires-clause-within
clear-kept-requires-clause-within c = grind (arith, common_steps)
