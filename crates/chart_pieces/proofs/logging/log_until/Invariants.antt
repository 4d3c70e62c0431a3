use Rattle.std.proofs.Common.{◌≡◌, ℕ, ◌<◌, ◌≤◌, map, take, get_or}
use Rattle.domain_run.specs.declared.happened.Happened.{Happened}
use Rattle.chart_pieces.specs.Moments.{moment_of}
use Rattle.chart_pieces.specs.private.Lines.{bars_all}
use Rattle.chart_pieces.proofs.logging.log_until.Given as goal

-- the entries so far are logged, and none of them is later than the time
abbrev pub invariant-loop-entry : goal.invariant-loop-entry
invariant-loop-entry l = record {
  count : l.count ≡ l.entry-index;
  logged : l.table.items ≡ map (bars_all l.window (map moment_of (take l.entry-index l.happened))) l.initial.table.items;
  passed : (k : ℕ) (d : Happened) → k < l.entry-index → (get_or l.happened k d).time ≤ l.time;
}
