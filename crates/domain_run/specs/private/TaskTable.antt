-- The list of tasks with what is kept beside it, and what changes one task of it, for the code's
-- own contracts.
use Rattle.std.specs.Prelude.{ℕ, ℤ, pos, neg_ℤ, ◌*◌, ◌+◌, ◌<◌, ◌≤◌, ◌^◌, ◌≤ℤ◌, ◌-ℤ◌, ◌/◌, ◌≡◌, ◌⊎◌, true, if◌then◌else◌, List, [], ◌∷◌, ◌++◌, length, take, drop, slice_index_or, Option, Some, None, IsTrue}
use Rattle.domain_run.specs.declared.task.Condition.TheVariants.{Leaving}
use Rattle.domain_run.specs.declared.task.Task.{Task}
use Rattle.domain_run.specs.declared.transition.Transition.{Transition}
use Rattle.domain_run.specs.declared.transition.Transition.TheVariants.{Replenish, Settle, Unblock, Run, RunDeferring, Defer, TakeBack, Regrade, Release, End, Depart}
use Rattle.domain_run.specs.declared.run_queue.RunQueue.{RunQueue}
use Rattle.domain_run.specs.declared.status.TaskStatus.{TaskStatus}
use Rattle.domain_run.specs.Conditions.{is_ready, is_waiting}
use Rattle.domain_run.specs.Parts.{replenish_due, settled, unblocked, with_cpu}
use Rattle.domain_run.specs.Calls.{of_number, with_new_params, blocked_until, ended_at}
use Rattle.domain_run.specs.private.Paying.{ran_until}
use Rattle.domain_run.specs.private.RunQueue.{IsCounted, status_of}
use Rattle.domain_run.specs.private.Timers.{due_of}
use Rattle.due_times.specs.declared.charges.OpenCharge.{OpenCharge}
use Rattle.due_times.specs.declared.charges.Basis.{Basis}
use Rattle.domain_run.specs.declared.running.Running.{Running}
use Rattle.grub_rules.specs.Sums.{uinact}
use Rattle.grub_rules.specs.Rate as reclaiming
use Rattle.domain_run.specs.Tick.{shares, sum_of, prepared}
use Rattle.due_times.specs.declared.stale.StaleCharges.{StaleCharges}
use Rattle.domain_run.specs.private.StaleCharges.{AreSettled}
use Rattle.due_times.specs.OpenCharges.{OpenChargesView}
use Rattle.domain_run.specs.private.Owed.{owed_all, AreOpen, charges_without, runner_of, charge_of_task, IsRight, Lasts}
use Rattle.edf_pick.specs.declared.moves.Moved.{Moved}
use Rattle.edf_pick.specs.Places.{Places, is_on_cpu}
use Rattle.domain_run.specs.Sound.{occupant}
use Rattle.limits.specs.Limits.{clock_end}

-- the listed tasks of a domain of so many CPUs, each charged up to now, the task that runs and the
-- open charge of each CPU, and which CPUs the last choice gave to another one
pub record TaskTableView : Type 0 where
  pub cpus : ℕ
  -- the time up to which each task with an open charge has run
  pub clock : ℕ
  pub charges : List (Option OpenCharge)
  pub places : Places
  pub moves : List Moved
  pub tasks : List Task

-- the task at a place has closed its charge, where anything has changed
abbrev pub HasLeft : ℕ → TaskTableView → TaskTableView → Type 0
HasLeft place old new =
    (new ≡ old)
    ⊎ ((d : Task) → new.charges ≡ charges_without (slice_index_or new.tasks place d)
    (charges_without (slice_index_or old.tasks place d) old.charges))

-- what a task table keeps: its run queue counts its list, each open charge is that of its task,
-- the task that runs on a CPU that is not stale has the right open charge, and there is a place for
-- each CPU
pub record IsKept (queue : RunQueue) (charges : OpenChargesView) (tasks : List Task)
    (stale : StaleCharges)
    : Type 0 where
  pub counted : IsCounted (length queue.accounts.all) queue (owed_all charges tasks)
  pub waits : AreOpen charges.charges tasks
  pub wide : length charges.charges ≡ length queue.accounts.all
  pub settled : AreSettled stale (length queue.accounts.all) queue.schedule.places charges.charges
      (owed_all charges tasks)

-- a task of the list that is seen but for what is left of its budget and its work
pub record IsSeenAs (t : Task) (found : Option Task) : Type 0 where
  pub left : ℤ
  pub work : ℕ
  pub is : found ≡ Some (record t { server = record t.server { left = left }; work = work })

-- a task that is to go off the list at once
abbrev pub quit : Task → Task
quit t = record t { condition = Leaving; zero_lag = None }

-- a task without its zero-lag time
abbrev pub without_zero_lag : Task → Task
without_zero_lag t = record t { zero_lag = None }

-- CHANGES of one task at a time: what a part of a tick does to it, or a call
abbrev pub task_after : ℕ → Transition → Task → Task
task_after time Replenish t = replenish_due time t
task_after time Settle t = settled time t
task_after time Unblock t = unblocked time t
task_after time (Run ticks left) t = ran_until time ticks left t
task_after time (RunDeferring ticks left) t = without_zero_lag (ran_until time ticks left t)
task_after time Defer t = without_zero_lag t
task_after time (TakeBack lag) t = record t { zero_lag = Some lag }
task_after time (Regrade params) t = with_new_params params t
task_after time Release t = blocked_until time t
task_after time End t = ended_at time t
task_after time Depart t = quit t

-- what so many ticks of running need, up to a time, with what they leave of the budget
pub record MayRun (time ticks : ℕ) (left : ℤ) (t : Task) : Type 0 where
  pub early : time < 2 ^ 43
  pub ready : IsTrue (is_ready t.condition)
  pub worked : ticks ≤ t.work
  -- the rate of a task of at most one CPU is at most 2^32
  pub low : t.params.bw ≤ 2 ^ 20 → neg_ℤ (pos (2 ^ 32)) ≤ℤ left
  pub high : left ≤ℤ pos (2 ^ 52)

-- what a change needs of its task
abbrev pub MayMake : ℕ → Transition → Task → Type 0
MayMake time Replenish t = time < clock_end
MayMake time Settle t = Unit {0}
MayMake time Unblock t = time < clock_end
MayMake time (Run ticks left) t = MayRun time ticks left t
MayMake time (RunDeferring ticks left) t = MayRun time ticks left t
MayMake time Defer t = Unit {0}
MayMake time (TakeBack lag) t = Unit {0}
MayMake time (Regrade params) t = Unit {0}
MayMake time Release t = IsTrue (is_waiting t.condition) × (time ≤ clock_end)
MayMake time End t = Unit {0}
MayMake time Depart t = Unit {0}

-- the zero-lag time that it defers
abbrev pub deferred_lag : ℕ → Transition → Task → Option ℕ
deferred_lag time Replenish t = None
deferred_lag time Settle t = None
deferred_lag time Unblock t = None
deferred_lag time (Run ticks left) t = None
deferred_lag time (RunDeferring ticks left) t = (ran_until time ticks left t).zero_lag
deferred_lag time Defer t = t.zero_lag
deferred_lag time (TakeBack lag) t = None
deferred_lag time (Regrade params) t = None
deferred_lag time Release t = None
deferred_lag time End t = None
deferred_lag time Depart t = None

-- what it needs of the domain
abbrev pub Fits : ℕ → Transition → Type 0
Fits cpus Replenish = Unit {0}
Fits cpus Settle = Unit {0}
Fits cpus Unblock = Unit {0}
Fits cpus (Run ticks left) = Unit {0}
Fits cpus (RunDeferring ticks left) = Unit {0}
Fits cpus Defer = Unit {0}
Fits cpus (TakeBack lag) = Unit {0}
Fits cpus (Regrade params) = params.bw ≤ 2 ^ 26
Fits cpus Release = Unit {0}
Fits cpus End = Unit {0}
Fits cpus Depart = Unit {0}

-- the status of a task before a change, if it may be another after it
abbrev pub HadStatus : Option TaskStatus → Task → Task → Type 0
HadStatus None before after = status_of before ≡ status_of after
HadStatus (Some s) before after = s ≡ status_of before

-- parts 1 to 3: may be made of each task, and pass by those that are not due
pub record IsPart (time : ℕ) (transition : Transition) : Type 0 where
  pub fits : (cpus : ℕ) → Fits cpus transition
  pub may : (t : Task) → MayMake time transition t
  pub passes : (t : Task) → time < due_of t → task_after time transition t ≡ t

-- parts 1 and 2 of one task
abbrev pub timers_served : ℕ → Task → Task
timers_served time t = settled time (replenish_due time t)

-- parts 1 to 3 of the task at a place, and the place after what is left there: none, where it has
-- left
pub record IsWoken (time place : ℕ) (old new : List Task) (following : ℕ) : Type 0 where
  pub tasks : (d : Task) → new
      ≡ take place old ++ (prepared time (slice_index_or old place d ∷ []) ++ drop (place + 1) old)
  pub next : (d : Task) → following ≡ place
      + length (prepared time (slice_index_or old place d ∷ []))

-- the task that runs on a CPU, if one does, belongs to it
abbrev pub homed_here : Option ℕ → ℕ → Task → Task
homed_here None cpu t = t
homed_here (Some number) cpu t = of_number number (with_cpu (Some cpu)) t

-- one of the listed tasks as a jump sees it
abbrev pub runner_in : List Task → Task → Running
runner_in tasks t = runner_of (uinact t.cpu (shares tasks)) t

-- the rate of one of the listed tasks, from the sums as they are
abbrev pub rate_in : ℕ → ℕ → List Task → Task → ℕ
rate_in cpus limit tasks t =
    reclaiming.rate t.params (uinact t.cpu (shares tasks)) (sum_of tasks) cpus limit

-- what the rates of the tasks of a CPU depend on
abbrev pub basis_in : ℕ → ℕ → List Task → ℕ → Basis
basis_in cpus limit tasks cpu =
    record {
      uinact = uinact cpu (shares tasks);
      share = sum_of tasks / cpus;
      limit = limit;
    }

-- a task of the list has the open charge that the tasks that run on the CPUs give it
abbrev pub HasItsCharge : Places → ℕ → ℕ → List Task → List (Option OpenCharge) → Task → Type 0
HasItsCharge places cpus limit tasks charges t =
    IsRight (occupant places t.cpu) t.number (rate_in cpus limit tasks t) (charge_of_task charges t)

-- a task after so many ticks, up to a time: where it runs on a CPU it has run in each
abbrev pub leapt : ℕ → ℕ → Places → ℕ → ℕ → List Task → Task → Task
leapt time ticks places cpus limit tasks t =
    if is_on_cpu t.number places
    then ran_until time ticks (t.server.left -ℤ pos (rate_in cpus limit tasks t * ticks)) t else t

-- where it runs neither its work nor its budget ends before the last of them
abbrev pub LastsIf : ℕ → Places → ℕ → ℕ → List Task → Task → Type 0
LastsIf ticks places cpus limit tasks t =
    is_on_cpu t.number places ≡ true → Lasts ticks (rate_in cpus limit tasks t) t
