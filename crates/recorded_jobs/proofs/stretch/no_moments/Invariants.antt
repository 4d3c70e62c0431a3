use Rattle.std.proofs.Common.{◌≡◌, None, All, vec_len}
use Rattle.recorded_jobs.proofs.stretch.no_moments.Given as goal

abbrev pub invariant-loop : goal.invariant-loop
invariant-loop l = record { many : vec_len l.moments ≡ l.counter; none : All (λ m. m ≡ None) l.moments.items }
