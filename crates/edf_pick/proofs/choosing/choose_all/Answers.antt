use Rattle.std.proofs.Common.{◌++◌, List, subst}
use Rattle.std.specs.List.Sorted.{IsPermutation}
use Rattle.std.proofs.lemmas.List.Sorted.{IsPermutation-trans}
use Rattle.edf_pick.specs.declared.candidate.Candidate.{Candidate}
use Rattle.edf_pick.specs.private.Ready.{all_held}
use Rattle.edf_pick.proofs.choosing.choose_all.Goals as goal

pub returns-clause-same : goal.returns-clause-same
returns-clause-same c =
    let then = c.fill.new in
    let last = c.displace_all.new in
    let first = all_held c.args.running.now ++ c.args.ready_rest.now in
    let end = all_held last.running ++ (last.movers ++ last.ready_rest) in
    IsPermutation-trans first (all_held then.running ++ (then.movers ++ then.ready_rest)) end
    (subst (λ (xs : List Candidate). IsPermutation (all_held c.args.running.now ++ (xs ++ c.args.ready_rest.now)) (all_held then.running ++ (then.movers ++ then.ready_rest))) c.clear.ensures c.fill.ensures.same)
    c.displace_all.ensures.same
