-- What a contract sees of a task's accepted parameters.
use Rattle.std.specs.Prelude.{ℕ, Bool, ◌≡◌, ◌≤◌, ◌<◌, ◌^◌}
use Rattle.attr_check.specs.Ratio.{ratio}

-- runtime, relative deadline and period in microseconds, whether the task reclaims
-- (SCHED_FLAG_RECLAIM), and its bandwidth
pub record ParamsView : Type 0 where
  pub runtime : ℕ
  pub deadline : ℕ
  pub period : ℕ
  pub reclaim : Bool
  pub bw : ℕ

-- runtime <= deadline <= period (sched(7), "SCHED_DEADLINE"), a runtime of at least 2 us (1024 ns
-- in sched(7), in whole microseconds), a period of at most 2^32 us (own), and the bandwidth that
-- runtime and period give
pub record IsOrdered (p : ParamsView) : Type 0 where
  pub some_runtime : 1 < p.runtime
  pub runtime_first : p.runtime ≤ p.deadline
  pub deadline_first : p.deadline ≤ p.period
  pub short : p.period ≤ 2 ^ 32
  pub share : p.bw ≡ ratio p.period p.runtime
