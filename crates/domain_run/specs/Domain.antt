-- A root domain between two ticks.
use Rattle.std.specs.Prelude.{ℕ, ◌<◌, ◌≤◌, List, [], replicate, None}
use Rattle.edf_pick.specs.Places.{Places}
use Rattle.domain_run.specs.declared.task.Task.{Task}
use Rattle.domain_run.specs.Switch.{Switch}
use Rattle.limits.specs.Limits.{unit, least_limit}

-- 1 to 64 (own)
abbrev pub IsCpus : ℕ → Type 0
IsCpus cpus = (0 < cpus) × (cpus ≤ 64)

-- what may be given away of one CPU, in 1/2^20: a hundredth, rounded down, to the whole (own)
abbrev pub IsLimit : ℕ → Type 0
IsLimit limit = (least_limit ≤ limit) × (limit ≤ unit)

pub record Domain : Type 0 where
  -- how many CPUs it has, and the bandwidth that it may give away for each, in 1/2^20
  pub cpus : ℕ
  pub limit : ℕ
  -- microseconds from the beginning
  pub time : ℕ
  -- the listed tasks; no rule looks at their order
  pub tasks : List Task
  -- the numbers ever admitted, in rising order
  pub used : List ℕ
  -- the task that ran on each CPU in the last tick
  pub curr : Places
  -- the switches so far
  pub switches : List Switch

-- nothing has happened yet
abbrev pub empty_domain : ℕ → ℕ → Domain
empty_domain cpus limit =
    record {
      cpus = cpus;
      limit = limit;
      time = 0;
      tasks = [];
      used = [];
      curr = replicate cpus None;
      switches = [];
    }
