-- The figures of a run: of each task and of each CPU (own).
use Rattle.std.specs.Prelude.{ℕ, ◌-◌, ◌/◌, ◌==◌, Bool, not, ◌&&◌, nat_lt, min, max, fold, pos, ℤ, ◌-ℤ◌, List, [], ◌∷◌, length, map, flat_map, sum_by, count_by, Option, Some, None}
use Rattle.std.specs.List.{range_with_len}
use Rattle.std.specs.Int.{int_min}
use Rattle.run_figures.specs.declared.job.Job.{Job}
use Rattle.run_figures.specs.declared.run.Admitted.{Admitted}
use Rattle.run_figures.specs.declared.figures.Responses.{Responses}
use Rattle.run_figures.specs.declared.figures.TaskFigures.{TaskFigures}
use Rattle.run_figures.specs.declared.figures.CpuFigures.{CpuFigures}
use Rattle.run_figures.specs.Jobs.{of_task, jobs_of}
use Rattle.run_figures.specs.Runs.{RunView}
use Rattle.run_figures.specs.Throttling.{throttled_of, throttled_us, preemptions}
use Rattle.run_figures.specs.Stays.{cpu_us, busy_us, migrations}

-- A JOB THAT ENDED: how long it took from its release, and how far its end is before its deadline
pub record Outcome : Type 0 where
  pub response : ℕ
  pub slack : ℤ

abbrev pub outcome_at : Job → Option ℕ → List Outcome
outcome_at job None = []
outcome_at job (Some end) =
    record { response = end - job.release; slack = pos job.deadline -ℤ pos end } ∷ []

abbrev pub outcomes : List Job → List Outcome
outcomes jobs = flat_map (λ j. outcome_at j j.ended) jobs

-- LATE: it ended after its deadline; or it is under way at the end of the run, neither ended nor
-- cut, and its deadline has passed
abbrev pub is_late_at : ℕ → Job → Option ℕ → Bool
is_late_at time job None = not job.cut && nat_lt job.deadline time
is_late_at time job (Some end) = nat_lt job.deadline end

abbrev pub is_late : ℕ → Job → Bool
is_late time job = is_late_at time job job.ended

-- least, mean and greatest response, and least slack, where a job ended; the mean is rounded down
abbrev pub responses_of : List Outcome → Option Responses
responses_of [] = None
responses_of (o ∷ os) = Some (record {
  least = fold (λ least p. min least p.response) o.response os;
  mean = sum_by (λ p. p.response) (o ∷ os) / length (o ∷ os);
  most = fold (λ most p. max most p.response) o.response os;
  slack = fold (λ least p. int_min least p.slack) o.slack os;
})

-- A TASK
abbrev pub figures_of : RunView → Admitted → TaskFigures
figures_of run task = record {
  number = task.number;
  runtime = task.runtime;
  period = task.period;
  jobs = length (outcomes (jobs_of run.happened task.number));
  late = count_by (is_late run.time) (jobs_of run.happened task.number);
  responses = responses_of (outcomes (jobs_of run.happened task.number));
  throttled = throttled_of (of_task task.number run.happened);
  throttled_us = throttled_us run.time (of_task task.number run.happened);
  preempted = preemptions run.happened run.switches task.number;
  migrated = migrations run.switches task.number;
  cpu_us = cpu_us run.time run.switches task.number;
}

abbrev pub task_figures : RunView → List TaskFigures
task_figures run = map (figures_of run) run.tasks

-- A CPU of the domain
abbrev pub cpu_of : RunView → ℕ → CpuFigures
cpu_of run cpu = record {
  busy_us = busy_us run.time run.switches cpu;
  switches = count_by (λ s. s.cpu == cpu) run.switches;
}

abbrev pub cpu_figures : RunView → List CpuFigures
cpu_figures run = map (cpu_of run) (range_with_len 0 run.cpus)
