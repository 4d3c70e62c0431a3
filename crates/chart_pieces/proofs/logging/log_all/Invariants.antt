use Rattle.std.proofs.Common.{◌≡◌, map, take}
use Rattle.chart_pieces.specs.Moments.{moment_of}
use Rattle.chart_pieces.specs.private.Lines.{bars_all}
use Rattle.chart_pieces.proofs.logging.log_all.Given as goal

-- the entries so far are logged
abbrev pub invariant-loop-entry : goal.invariant-loop-entry
invariant-loop-entry l = l.table.items ≡ map (bars_all l.window (map moment_of (take l.entry-index l.happened))) l.initial.table.items
