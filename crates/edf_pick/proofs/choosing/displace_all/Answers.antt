use Rattle.std.proofs.Common.{◌+◌, ◌++◌, ◌∙◌, List, Option, length, sym, ap, subst, arith, inl, inr}
use Rattle.std.specs.List.Sorted.{IsPermutation}
use Rattle.std.proofs.lemmas.List.Sorted.{IsPermutation-trans}
use Rattle.edf_pick.specs.declared.candidate.Candidate.{Candidate}
use Rattle.edf_pick.specs.private.Choosing.{IsChosen}
use Rattle.edf_pick.specs.private.Ready.{all_held}
use Rattle.edf_pick.proofs.Chosen.{before_first}
use Rattle.edf_pick.proofs.choosing.displace_all.Goals as goal

pub rounds-preserved : goal.rounds-preserved
rounds-preserved c =
    let inv = c.rounds.invariant in
    let new = c.displace.new in
    let first = all_held c.args.running.now ++ (c.args.movers.now ++ c.args.ready_rest.now) in
    let then = all_held c.rounds.running ++ (c.rounds.movers ++ c.rounds.ready_rest) in
    let last = all_held new.running ++ (new.movers ++ new.ready_rest) in
    let some = c.in-Some.ensures.some in
    let still = c.outdone.ensures.still in
    record {
      is = c.displace.ensures.is;
      all = elim inv.all [
        | inl none ↦ absurd (let zero = ap (λ (xs : List Candidate). length xs) none in omega (arith, zero, some))
        | inr full ↦ inr (c.displace.ensures.busy ∙ ap (λ (ss : List (Option Candidate)). length (all_held ss) + length c.rounds.movers) still ∙ full)
      ];
      same = IsPermutation-trans first then last inv.same (subst (λ (ss : List (Option Candidate)). IsPermutation (all_held ss ++ (c.rounds.movers ++ c.rounds.ready_rest)) last) still c.displace.ensures.same);
    }

pub returns-clause-is : goal.returns-clause-is
returns-clause-is c =
    let inv = c.rounds.invariant in
    subst (λ (ss : List (Option Candidate)). IsChosen ss c.rounds.movers c.rounds.ready_rest c.args.places.now) (sym c.outdone.ensures.still)
    (record { choosing = inv.is; all = inv.all; first = before_first c.rounds.running c.rounds.movers c.rounds.ready_rest c.args.places.now inv.is c.in_default.ensures.none })
