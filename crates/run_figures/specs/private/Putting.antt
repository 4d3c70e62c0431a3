-- Figures from what was logged.
use Rattle.std.specs.Prelude.{ℕ, ◌+◌, ◌/◌, List, [], ◌∷◌}
use Rattle.std.specs.Option.{option_map, option_map_or}
use Rattle.run_figures.specs.declared.run.Admitted.{Admitted}
use Rattle.run_figures.specs.declared.counting.Ended.{Ended}
use Rattle.run_figures.specs.declared.counting.Counts.{Counts}
use Rattle.run_figures.specs.declared.logged.TaskTally.{TaskTally}
use Rattle.run_figures.specs.declared.ran.Ran.{Ran}
use Rattle.run_figures.specs.declared.ran.Cpu.{Cpu}
use Rattle.run_figures.specs.declared.figures.Responses.{Responses}
use Rattle.run_figures.specs.declared.figures.TaskFigures.{TaskFigures}
use Rattle.run_figures.specs.declared.figures.CpuFigures.{CpuFigures}
use Rattle.run_figures.specs.private.Logging.{with_over, gap}

abbrev pub responses_by : Ended → Responses
responses_by e =
    record { least = e.least; mean = e.total / e.count; most = e.most; slack = e.slack }

abbrev pub put_counts : ℕ → Admitted → TaskTally → Ran → Counts → TaskFigures
put_counts time task logged ran counts = record {
  number = task.number;
  runtime = task.runtime;
  period = task.period;
  jobs = option_map_or (λ e. e.count) counts.ended 0;
  late = counts.late;
  responses = option_map responses_by counts.ended;
  throttled = logged.throttle.times;
  throttled_us = logged.throttle.us + gap logged.throttle.since time;
  preempted = logged.preempted;
  migrated = ran.migrated;
  cpu_us = ran.cpu_us;
}

abbrev pub put_task : ℕ → Admitted → TaskTally → Ran → TaskFigures
put_task time task logged ran =
    put_counts time task logged ran (with_over time logged.counts logged.job)

abbrev pub put_all : ℕ → List Admitted → List TaskTally → List Ran → List TaskFigures
put_all time (task ∷ tasks) (t ∷ ts) (r ∷ rs) = put_task time task t r ∷ put_all time tasks ts rs
put_all time _ _ _ = []

abbrev pub put_cpu : Cpu → CpuFigures
put_cpu c = record { busy_us = c.busy_us; switches = c.switches }
