-- Within which limits a scenario is run, and what is told for what is written of it (own).
use Rattle.std.specs.Prelude.{◌≤◌, ◌<◌, Bool, true, false, length, All}
use Rattle.domain_run.specs.Domain.{IsCpus, IsLimit}
use Rattle.run_options.specs.declared.options.Options.{Options}
use Rattle.run_options.specs.declared.options.Print.{Print}
use Rattle.run_options.specs.declared.options.Print.TheVariants as prints
use Rattle.run_options.specs.declared.replay_print.ReplayPrint.{ReplayPrint}
use Rattle.run_options.specs.declared.replay_print.ReplayPrint.TheVariants as replays
use Rattle.limits.specs.Limits.{max_history}

pub record AreOptions (o : Options) : Type 0 where
  pub some_domains : 0 < length o.domains.items
  pub few_domains : length o.domains.items ≤ 8
  pub cpus : All IsCpus o.domains.items
  pub limit : IsLimit o.limit
  pub a_client : 0 < o.clients
  pub few_clients : o.clients ≤ 64
  pub a_worker : 0 < o.workers
  pub few_workers : o.workers ≤ 8
  pub some_history : 0 < o.history
  pub short_history : o.history ≤ max_history

-- whether what is printed tells what happens to the tasks
abbrev pub tells : Print → Bool
tells prints.Events = true
tells prints.Jobs = true
tells prints.Summary = true
tells (prints.Chart span) = true
tells _ = false

-- the same of a replay
abbrev pub print_tells : ReplayPrint → Bool
print_tells replays.Trace = false
print_tells replays.Replies = false
print_tells replays.Events = true
print_tells replays.Jobs = true
print_tells replays.Summary = true
print_tells (replays.Chart span) = true
