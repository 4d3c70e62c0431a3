use Rattle.std.proofs.Common.{◌-◌, ◌≤◌, ◌<◌, length, ℕ, get_or}
use Rattle.recorded_jobs.proofs.releasing.count_until.Given as goal

abbrev pub invariant-loop-low : goal.invariant-loop-low
invariant-loop-low l = record {
  order : l.low ≤ l.high;
  within : l.high ≤ length l.wakes;
  before : (k : ℕ) → k < l.low → get_or l.wakes k 0 ≤ l.time;
  later : (k : ℕ) → l.high ≤ k → k < length l.wakes → l.time < get_or l.wakes k 0;
}

abbrev pub decreases-loop-low : goal.decreases-loop-low
decreases-loop-low l = l.high - l.low
