use Rattle.std.proofs.Common.{◌≡◌, ◌++◌, map, drop}
use Rattle.recorded_moments.specs.Moments.{watched_view}
use Rattle.recording_import.specs.Import.{watched_of}
use Rattle.recording_import.proofs.inputs.all_watched.Given as goal

abbrev pub invariant-loop-task : goal.invariant-loop-task
invariant-loop-task l = map watched_view l.watched.items ++ map watched_of (drop l.task-index l.tasks) ≡ map watched_of l.tasks
