use Rattle.std.proofs.Common.{◌≡◌, All}
use Rattle.std.specs.Vec.Iter.{into_iter_items, into_iter_len}
use Rattle.session.proofs.begun_run.shut_rest.Given as goal

abbrev pub invariant-loop-domain : goal.invariant-loop-domain
invariant-loop-domain l = All (λ b. b.gate ≡ l.gate) (into_iter_items l.rest)

abbrev pub decreases-loop-domain : goal.decreases-loop-domain
decreases-loop-domain l = into_iter_len l.rest
