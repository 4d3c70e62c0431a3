use Rattle.std.proofs.Common.{◌≡◌, ◌*◌, ◌≤◌, ◌^◌}
use Rattle.task_script.specs.private.Progress.{events_behind}
use Rattle.task_script.proofs.progress.places_before.Given as goal

abbrev pub invariant-loop-index : goal.invariant-loop-index
invariant-loop-index l = record {
  places : l.places ≡ events_behind l.phases l.index 0 0;
  few : l.places ≤ l.index * 2 ^ 40;
}
