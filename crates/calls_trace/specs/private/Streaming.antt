-- The run of a section that an accounting takes while it is made.
use Rattle.std.specs.Prelude.{ℕ, ◌≡◌, ◌+◌, ◌-◌, ◌*◌, ◌≤◌, ◌^◌, true, List, ◌++◌, length, map, All, Contains}
use Rattle.attr_check.specs.ParamsView.{ParamsView}
use Rattle.attr_check.specs.Ratio.{cap}
use Rattle.domain_run.specs.declared.call.Call.{Call}
use Rattle.domain_run.specs.declared.happened.Happened.{Happened}
use Rattle.domain_run.specs.Domain.{Domain}
use Rattle.domain_run.specs.Passing.{with_past}
use Rattle.domain_run.specs.Happened.{logged_by_calls}
use Rattle.domain_run.specs.Run.{after_calls}
use Rattle.domain_run.specs.Tick.{sum_of}
use Rattle.calls_text.specs.Limits.{IsCall}
use Rattle.run_figures.specs.declared.run.Admitted.{Admitted}
use Rattle.run_figures.specs.Runs as counted
use Rattle.run_figures.specs.Figures.{task_figures, cpu_figures}
use Rattle.run_figures.specs.Jobs.{task_jobs}
use Rattle.figure_text.specs.Jobs.{JobsView}
use Rattle.figure_text.specs.Summary.{SummaryView}
use Rattle.switch_text.specs.Names.{name_of_task}
use Rattle.streamed_run.specs.Streamed.{IsStreamedUpTo}
use Rattle.calls_trace.specs.declared.streaming.Streaming.{Streaming}
use Rattle.calls_trace.specs.Replay.{names_of}
use Rattle.calls_trace.specs.DomainEvents.{params_by_calls, admitted_with_params}
use Rattle.calls_trace.specs.private.Foreseen.{IsForelogged, all_ticks}
use Rattle.calls_trace.specs.private.Replaying.{AdmittedHaveNames, given_in}
use Rattle.limits.specs.Limits.{clock_end, max_advance}

-- what calls lead to: the domain, the names and the parameters that they leave, and what happens
pub record LedView : Type 0 where
  pub domain : Domain
  pub names : ℕ → List ℕ
  pub given : ℕ → ParamsView
  pub happened : List Happened

-- the domain so far, with the switches that were streamed and forgotten
abbrev pub streamed_domain : Streaming → Domain
streamed_domain h = with_past h.accounting.switches h.run.state

-- what these calls lead to, once they are made
abbrev pub led_by : Streaming → List Call → LedView
led_by h calls = record {
  domain = after_calls (streamed_domain h) calls;
  names = names_of (streamed_domain h) calls (name_of_task h.run.names);
  given = params_by_calls (streamed_domain h) calls (given_in h.run.given);
  happened = (h.accounting.happened ++ h.run.log.happened)
      ++ logged_by_calls (streamed_domain h) calls;
}

-- the calls that are left, once they are made
abbrev pub led_to : Streaming → LedView
led_to h = led_by h h.calls

-- what is written of it
abbrev pub figures_led : LedView → counted.RunView
figures_led w = record {
  cpus = w.domain.cpus;
  time = w.domain.time;
  tasks = map (admitted_with_params w.given) w.domain.used;
  happened = w.happened;
  switches = w.domain.switches;
}

abbrev pub summary_led : LedView → SummaryView
summary_led w = record {
  names = w.names;
  tasks = task_figures (figures_led w);
  cpus = cpu_figures (figures_led w);
  bandwidth = sum_of w.domain.tasks;
  cap = cap w.domain.cpus w.domain.limit;
  time = w.domain.time;
}

abbrev pub jobs_led : LedView → JobsView
jobs_led w = record { names = w.names; tasks = map (task_jobs w.happened) w.domain.used }

-- the tasks that were admitted so far, with the parameters that they have
abbrev pub tasks_led : Streaming → List Admitted
tasks_led h = map (admitted_with_params (given_in h.run.given)) h.run.state.used

-- The run is streamed up to here, and so the accounting can take what these calls log: it was
-- opened for their tasks and up to the time at which they end.
pub record IsStreamedBefore (h : Streaming) (calls : List Call) : Type 0 where
  pub up_to : IsStreamedUpTo h.run.state h.run.log.happened h.accounting
  pub wanted : h.run.log.wanted ≡ true
  pub named : AdmittedHaveNames h.run.state h.run.names
  pub among : All (Contains h.accounting.tasks) h.run.state.used
  pub are : All IsCall calls
  pub forelogged : All (IsForelogged h.accounting.tasks) calls
  pub ends : h.run.state.time + all_ticks calls ≡ h.accounting.time
  pub early : h.run.state.time + length calls * max_advance ≤ clock_end
  pub last : h.accounting.time ≤ clock_end
  -- a call cuts at most 256 jobs, and a tick tells at most 2304 things
  pub few : length h.accounting.happened + length h.run.log.happened
      + 2304 * (clock_end - h.run.state.time) + 256 * length calls ≤ 2 ^ 63
