use Rattle.std.proofs.Common.{◌∙◌, List, replicate, take, ap, sym, subst}
use Rattle.std.specs.Int.{bit_at}
use Rattle.edf_pick.specs.declared.candidate.Candidate.{Candidate}
use Rattle.edf_pick.specs.private.RunningSet.{bare_key, stays_of, IsRunningSet}
use Rattle.edf_pick.proofs.Stays.{view_none, none_stay}
use Rattle.edf_pick.proofs.running.RunningSet.open.Goals as goal

pub invariant_of-result : goal.invariant_of-result
invariant_of-result c =
    subst (λ (xs : List Candidate). IsRunningSet c.args.cpus 0 0 xs c.none_latest.result 0 bare_key) (sym c.no_keys.ensures)
    (subst (λ (xs : List Candidate). IsRunningSet c.args.cpus 0 0 (replicate 64 bare_key) xs 0 bare_key) (sym c.none_latest.ensures) (none_stay c.args.cpus c.requires))

pub returns : goal.returns
returns c = ap (λ (xs : List Candidate). stays_of (bit_at 0) (take c.args.cpus xs)) c.no_keys.ensures ∙ view_none c.args.cpus c.requires
