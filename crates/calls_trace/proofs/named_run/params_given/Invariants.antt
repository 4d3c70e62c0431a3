use Rattle.std.proofs.Common.{◌≡◌, drop}
use Rattle.calls_trace.specs.DomainEvents.{no_params}
use Rattle.calls_trace.specs.private.Replaying.{given_in}
use Rattle.calls_trace.specs.private.Recorded.{params_given_by_all}
use Rattle.calls_trace.proofs.named_run.params_given.Given as goal

-- the entries that are left lead from the parameters so far to those of all
abbrev pub invariant-loop-entry : goal.invariant-loop-entry
invariant-loop-entry l = params_given_by_all (drop l.entry-index l.entries) (given_in l.given) ≡ params_given_by_all l.entries no_params
