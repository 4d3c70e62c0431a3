-- The figures of runs, as they are counted.
use Rattle.std.specs.Prelude.{ℕ, List}
use Rattle.attr_check.specs.Ratio.{cap}
use Rattle.domain_run.specs.Domain.{Domain}
use Rattle.domain_run.specs.Tick.{sum_of}
use Rattle.switch_text.specs.Names.{name_of_task}
use Rattle.run_figures.specs.declared.figures.TaskFigures.{TaskFigures}
use Rattle.run_figures.specs.declared.figures.CpuFigures.{CpuFigures}
use Rattle.figure_text.specs.Summary.{SummaryView}
use Rattle.calls_trace.specs.declared.counted_run.CountedRun.{CountedRun}

abbrev pub counted_as : CountedRun → SummaryView
counted_as c = record {
  names = name_of_task c.names.now;
  tasks = c.summary.tasks.items;
  cpus = c.summary.cpus.items;
  bandwidth = c.bandwidth;
  cap = c.cap;
  time = c.time;
}

-- what is written of a domain, with these figures; its switches are not looked at
abbrev pub summary_of_domain : (ℕ → List ℕ) → Domain → List TaskFigures → List CpuFigures
    → SummaryView
summary_of_domain names d tasks cpus = record {
  names = names;
  tasks = tasks;
  cpus = cpus;
  bandwidth = sum_of d.tasks;
  cap = cap d.cpus d.limit;
  time = d.time;
}
