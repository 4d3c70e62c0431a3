-- The row of a task whose runs were compared (own).
use Rattle.std.specs.Prelude.{◌≡◌, ℕ, ◌+◌, List, [], length, filter, map, Option, Some, None}
use Rattle.trace_compare.specs.declared.clock.ClockShift.{ClockShift}
use Rattle.trace_compare.specs.declared.task.TaskRuns.{TaskRuns}
use Rattle.trace_compare.specs.declared.pairs.Matching.{Matching}
use Rattle.trace_compare.specs.Pairs.{count_matched}
use Rattle.trace_compare.specs.Differences.{pairs_of, start_apart, end_apart, is_inside, others, cpu_time, taken_time}
use Rattle.compare_report.specs.declared.line.Row.{Row}
use Rattle.compare_report.specs.declared.line.Spread.{Spread}
use Rattle.compare_report.specs.Quantiles.{IsSpread}

-- the quantiles of distances, and none of none
abbrev pub IsSpreadOf : List ℕ → Option Spread → Type 0
IsSpreadOf values None = values ≡ []
IsSpreadOf values (Some s) = IsSpread values s

-- the row of a task, where the model's time is from one time until another
pub record IsRow (shift : ClockShift) (from until : ℕ) (name : List ℕ) (t : TaskRuns)
    (m : Matching) (r : Row) : Type 0 where
  pub called : r.name.now ≡ name
  pub runs : r.runs ≡ length t.model.items
  pub matches : r.matched ≡ count_matched m.partners.items
  pub recorded : r.recorded ≡ count_matched m.partners.items + others from until shift m.left.items
  pub starts : IsSpreadOf
      (map (start_apart shift) (pairs_of t.model.items m.partners.items)) r.starts
  pub ends : IsSpreadOf (map (end_apart shift) (pairs_of t.model.items m.partners.items)) r.ends
  pub cpu : r.cpu ≡ cpu_time t.model.items
  pub recorded_cpu : r.recorded_cpu ≡ taken_time m.partners.items
      + cpu_time (filter (is_inside from until shift) m.left.items)
