use Rattle.std.proofs.Common.{◌≡◌, [], All, vec_len}
use Rattle.trace_compare.proofs.collecting.no_runs.Given as goal

abbrev pub invariant-loop : goal.invariant-loop
invariant-loop l = record { many : vec_len l.runs ≡ l.counter; none : All (λ rs. rs.items ≡ []) l.runs.items }
