use Rattle.std.proofs.Common.{◌≡◌, ◌++◌, ◌∙◌, List, true, false, sym, ap, subst}
use Rattle.edf_pick.specs.declared.candidate.Candidate.{Candidate}
use Rattle.edf_pick.specs.Order.{has_candidate}
use Rattle.edf_pick.specs.private.Ready.{all_held, HasLeftReady}
use Rattle.edf_pick.proofs.CallerLemmas.{IsNumbered}
use Rattle.edf_pick.proofs.Left.{wait_left}
use Rattle.edf_pick.proofs.Rising.{without_absent}
use Rattle.edf_pick.proofs.leaving.take_other.Goals as goal
use Rattle.edf_pick.proofs.leaving.take_other.Goals.{In_default}

-- nobody has gone
none : (c : In_default) → has_candidate c.args.c.now c.args.ready_rest.now ≡ false
none c = sym c.in_default.ensures.there

same : (c : In_default) → c.take.new.self ≡ c.args.ready_rest.now
same c = c.take.ensures.removed ∙ without_absent c.args.c.now c.args.ready_rest.now (none c)

pub take_elsewhere-requires-clause-numbered : goal.take_elsewhere-requires-clause-numbered
take_elsewhere-requires-clause-numbered c = subst (λ (xs : List Candidate). IsNumbered (all_held c.args.running.now ++ xs)) (sym (same (goal.at.take_elsewhere-requires-clause-numbered c).In_default)) c.requires.numbered

pub take_elsewhere-requires-clause-absent : goal.take_elsewhere-requires-clause-absent
take_elsewhere-requires-clause-absent c =
    let k = (goal.at.take_elsewhere-requires-clause-absent c).In_default in
    ap (λ (xs : List Candidate). has_candidate c.args.c.now xs) (same k) ∙ none k

pub returns-in_default : goal.returns-in_default
returns-in_default c =
    let k = (goal.at.returns-in_default c).In_default in
    let stays = c.args.running.now in
    let now = c.take_elsewhere.new.running in
    record {
      left = subst (λ (xs : List Candidate). HasLeftReady c.args.c.now stays c.args.ready_rest.now now xs c.take_elsewhere.result) (sym (same k))
          (subst (λ (xs : List Candidate). HasLeftReady c.args.c.now stays xs now xs c.take_elsewhere.result) (same k) c.take_elsewhere.ensures.left);
    }

pub returns : goal.returns
returns c = record {
  left = subst (λ (xs : List Candidate). HasLeftReady c.args.c.now c.args.running.now c.args.ready_rest.now c.args.running.now xs true) (sym c.take.ensures.removed)
      (wait_left c.args.c.now c.in-Some._entry c.args.running.now c.args.ready_rest.now c.requires.numbered c.in-Some.ensures.entry c.in-Some.ensures.same (sym c.in-Some.ensures.there));
}
