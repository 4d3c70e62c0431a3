-- Later by a number of microseconds: the same server, task, switch or event, with every time
-- moved (own).
use Rattle.std.specs.Prelude.{ℕ, ◌+◌, ◌-◌, Option, option_map}
use Rattle.cbs_rules.specs.declared.server.Server.{Server}
use Rattle.task_script.specs.script.Later.{later_cursor}
use Rattle.domain_run.specs.declared.task.Task.{Task}
use Rattle.domain_run.specs.declared.task.Condition.{Condition}
use Rattle.domain_run.specs.declared.task.Condition.TheVariants.{Ready, Throttled, Blocked, Waiting, Leaving}
use Rattle.domain_run.specs.Switch.{Switch}
use Rattle.domain_run.specs.declared.happened.What.{What}
use Rattle.domain_run.specs.declared.happened.What.TheVariants.{JobEnds, NextReleased, Spent, Cut, Replenished, Released, WokenSpent}
use Rattle.domain_run.specs.declared.happened.Happened.{Happened}

abbrev pub later : ℕ → Option ℕ → Option ℕ
later k time = option_map (λ x. x + k) time

abbrev pub later_server : ℕ → Server → Server
later_server k s = record s { deadline = later k s.deadline }

abbrev pub later_condition : ℕ → Condition → Condition
later_condition k Ready = Ready
later_condition k Throttled = Throttled
later_condition k (Blocked u) = Blocked (u + k)
later_condition k Waiting = Waiting
later_condition k Leaving = Leaving

-- THE TASK, k microseconds later, a number of rounds further on in its script, and with a part of
-- its work done. Its number, CPU, parameters, name and script, and what is left of its budget, are
-- the same
abbrev pub later_task : ℕ → ℕ → ℕ → Task → Task
later_task k rounds worked t = record t {
  condition = later_condition k t.condition;
  work = t.work - worked;
  zero_lag = later k t.zero_lag;
  server = later_server k t.server;
  cursor = later_cursor k rounds t.cursor;
}

-- THE OUTPUT
abbrev pub later_switch : ℕ → Switch → Switch
later_switch k s = record s { time = s.time + k }

abbrev pub later_what : ℕ → What → What
later_what k JobEnds = JobEnds
later_what k (NextReleased deadline) = NextReleased (deadline + k)
later_what k (Spent deadline) = Spent (deadline + k)
later_what k Cut = Cut
later_what k (Replenished deadline) = Replenished (deadline + k)
later_what k (Released deadline) = Released (deadline + k)
later_what k (WokenSpent deadline) = WokenSpent (deadline + k)

abbrev pub later_happened : ℕ → Happened → Happened
later_happened k h = record h { time = h.time + k; what = later_what k h.what }
