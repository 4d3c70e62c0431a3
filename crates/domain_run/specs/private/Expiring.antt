-- What open charges log as time goes on, for the code's own contracts.
use Rattle.std.specs.Prelude.{ℕ, pos, ◌*◌, ◌-ℤ◌, if◌then◌else◌, List, [], ◌++◌, Option, Some, None}
use Rattle.std.specs.List.Sorted.{IsPermutation}
use Rattle.edf_pick.specs.Places.{Places, is_on_cpu}
use Rattle.domain_run.specs.declared.task.Task.{Task}
use Rattle.domain_run.specs.declared.happened.Happened.{Happened}
use Rattle.due_times.specs.declared.charges.OpenCharge.{OpenCharge}
use Rattle.domain_run.specs.Log.{LogView, HasLogged}
use Rattle.domain_run.specs.private.TaskTable.{rate_in}
use Rattle.domain_run.specs.private.TransitionLog.{logged_until}
use Rattle.domain_run.specs.private.Owed.{charge_of_task}

-- what a task logs once so many ticks have passed, up to a time, by its open charge
abbrev pub logged_by_charge : ℕ → ℕ → Option OpenCharge → Task → List Happened
logged_by_charge time ticks None t = []
logged_by_charge time ticks (Some s) t =
    logged_until time ticks (t.server.left -ℤ pos (s.rate * ticks)) t

abbrev pub logged_passed : ℕ → ℕ → List (Option OpenCharge) → Task → List Happened
logged_passed time ticks charges t = logged_by_charge time ticks (charge_of_task charges t) t

-- what it logs where it runs on a CPU, at its rate
abbrev pub logged_leapt : ℕ → ℕ → Places → ℕ → ℕ → List Task → Task → List Happened
logged_leapt time ticks places cpus limit tasks t =
    if is_on_cpu t.number places
    then logged_until time ticks (t.server.left -ℤ pos (rate_in cpus limit tasks t * ticks)) t
    else []

-- of all that is to be logged the log has recorded a part, in whatever order, and the rest is left
pub record LogsPart (all rest : List Happened) (before after : LogView) : Type 0 where
  pub tail : List Happened
  pub is : HasLogged before tail after
  pub mixed : IsPermutation all (tail ++ rest)
