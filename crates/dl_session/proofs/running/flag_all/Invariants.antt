use Rattle.std.proofs.Common.{◌≡◌, map, take, drop, ◌++◌}
use Rattle.std.specs.Prelude.{true}
use Rattle.dl_session.specs.RunAnswer.{with_reclaim}
use Rattle.dl_session.proofs.running.flag_all.Given as goal

abbrev pub invariant-loop-task : goal.invariant-loop-task
invariant-loop-task l = record {
  written : l.task-items ≡ map (with_reclaim true) (take l.task-index l.initial.task-items) ++ drop l.task-index l.initial.task-items;
}
