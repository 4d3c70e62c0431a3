use Rattle.std.proofs.Common.{◌≡◌, None, All, vec_len}
use Rattle.trace_compare.proofs.collecting.no_times.Given as goal

abbrev pub invariant-loop : goal.invariant-loop
invariant-loop l = record { many : vec_len l.times ≡ l.counter; none : All (λ t. t ≡ None) l.times.items }
