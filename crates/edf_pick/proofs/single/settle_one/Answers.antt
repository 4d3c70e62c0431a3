use Rattle.std.proofs.Common.{◌∷◌, [], ◌∙◌, List, Option, Some, length, get_or, refl, sym, subst, arith, eq-eqb, eqb, eqb-true}
use Rattle.std.proofs.lemmas.Bool.{both_ways}
use Rattle.edf_pick.specs.declared.candidate.Candidate.{Candidate}
use Rattle.edf_pick.specs.Places.{Places}
use Rattle.edf_pick.specs.private.Ready.{AreAssigned}
use Rattle.edf_pick.proofs.Occupants.{nobody}
use Rattle.edf_pick.proofs.Moving.{moved_none}
use Rattle.edf_pick.proofs.OneCpu.{busy_assigned, idle_assigned, mover_assigned}
use Rattle.edf_pick.proofs.single.settle_one.Goals as goal

pub returns-then-busy-ne0-clause-assigned : goal.returns-then-busy-ne0-clause-assigned
returns-then-busy-ne0-clause-assigned c =
    busy_assigned c.args.running.now c.args.movers.now c.args.placement.now (c.requires.len ∙ c.requires.one) c.requires.one c.requires.on c.requires.free (λ none. omega (arith, none))

pub returns-then-busy-ne0-clause-moves : goal.returns-then-busy-ne0-clause-moves
returns-then-busy-ne0-clause-moves c = c.clear.ensures ∙ sym (moved_none 0 c.args.placement.now c.args.placement.now (λ cpu. refl))

pub returns-then-is_empty-clause-assigned : goal.returns-then-is_empty-clause-assigned
returns-then-is_empty-clause-assigned c =
    subst (λ (ps : Places). AreAssigned c.args.running.now c.args.movers.now c.args.running.now ps) (sym c.on_one.ensures.places)
    (idle_assigned c.args.running.now c.args.movers.now (c.requires.len ∙ c.requires.one) (omega arith) (eqb-true (length c.args.movers.now) 0 (sym c.is_empty.ensures ∙ c.if-is_empty.true)))

pub returns-clause-assigned : goal.returns-clause-assigned
returns-clause-assigned c =
    let stays = c.args.running.now in
    let movers = c.args.movers.now in
    let one = get_or movers 0 nobody in
    subst (λ (ps : Places). AreAssigned stays movers c.stay.new.self ps) (sym c.on_one-2.ensures.places)
    (subst (λ (ss : List (Option Candidate)). AreAssigned stays movers ss (Some one.number ∷ [])) (sym c.stay.ensures)
    (mover_assigned stays movers nobody (c.requires.len ∙ c.requires.one) (omega arith) c.requires.free (λ none. both_ways (eqb (length movers) 0) (sym c.is_empty.ensures ∙ c.if-is_empty.false) (eq-eqb (length movers) 0 none))))
