use Rattle.std.proofs.Common.{◌-◌, ◌<◌, ◌≤◌, ◌^◌, length, take}
use Rattle.std.specs.Prelude.{flat_map}
use Rattle.switch_text.specs.Names.{name_of_task}
use Rattle.figure_text.specs.Jobs.{task_job_lines, jobs_view_of}
use Rattle.figure_text.specs.Countable.{count_of_tasks, HasShortNames}
use Rattle.std.proofs.Common.{◌*◌}
use Rattle.figure_text.proofs.jobs.most_of_domain.Given as goal

abbrev pub invariant-tasks : goal.invariant-tasks
invariant-tasks l = record {
  most : l.most < 2 ^ 64 - 1 → length (flat_map (task_job_lines (name_of_task l.domain.names.now)) (take l.task-index l.domain.tasks.now)) ≤ l.most;
  usual : HasShortNames (jobs_view_of l.domain) → l.most ≤ 512 * count_of_tasks (take l.task-index l.domain.tasks.now);
}
