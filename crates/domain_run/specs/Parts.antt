-- What each part of a tick does to one task (own, over the rules of sched-deadline.rst that it
-- cites).
use Rattle.std.specs.Prelude.{ℕ, ◌+◌, ◌-◌, Bool, not, ◌&&◌, ◌==◌, if◌then◌else◌, Option, Some, None, is_none, position}
use Rattle.cbs_rules.specs.Serving.{replenished, woken, charged, is_spent}
use Rattle.grub_rules.specs.Lag as lag
use Rattle.edf_pick.specs.Places.{Places, is_task}
use Rattle.cbs_rules.specs.declared.server.Server.{Server}
use Rattle.domain_run.specs.declared.task.Task.{Task}
use Rattle.domain_run.specs.declared.task.Condition.{Condition}
use Rattle.domain_run.specs.declared.task.Condition.TheVariants.{Ready, Throttled, Blocked, Waiting, Leaving}
use Rattle.task_script.specs.declared.script.Segment.{Segment}
use Rattle.task_script.specs.declared.script.Segment.TheVariants.{Run as RunFor, Until, Wait as WaitFor, End}
use Rattle.task_script.specs.script.Segments.{SegmentAndCursor, next_segment}
use Rattle.domain_run.specs.Conditions.{is_throttled, is_leaving, is_over, has_come}

-- PART 1. A throttled task whose deadline has come is replenished, and ready
abbrev pub replenish_due : ℕ → Task → Task
replenish_due time t =
    if is_throttled t.condition && has_come time t.server.deadline
    then record t { server = replenished t.params t.server; condition = Ready } else t

-- PART 2. A zero-lag time that has come is dropped, and then a leaving task without one goes off
-- the list
abbrev pub settled : ℕ → Task → Task
settled time t = if has_come time t.zero_lag then record t { zero_lag = None } else t

abbrev pub is_listed : Task → Bool
is_listed t = not (is_leaving t.condition && is_none t.zero_lag)

-- PART 3. A task that wants a CPU with this server: ready, or throttled where nothing is left, but
-- replenished at once where its deadline has come too
abbrev pub enqueued : ℕ → Server → Task → Task
enqueued time s t =
    if is_spent s
    then (if has_come time s.deadline
    then record t { server = replenished t.params s; condition = Ready }
    else record t { server = s; condition = Throttled })
    else record t { server = s; condition = Ready }

-- a wake with so much work: the one rule by which a server is woken
abbrev pub woken_task : ℕ → ℕ → Task → Task
woken_task time n t =
    enqueued time (woken t.params time t.server) (record t { zero_lag = None; work = n })

abbrev pub started : ℕ → Segment → Task → Task
started time (RunFor n) t = woken_task time n t
started time (Until u) t = record t { condition = Blocked u }
started time WaitFor t = record t { condition = Waiting }
started time End t = record t { condition = Leaving }

abbrev pub starts : ℕ → Task → SegmentAndCursor → Task
starts time t a = started time a.segment (record t { cursor = a.cursor })

-- a task whose time of blocking is over is unblocked: it asks its script, and wakes where that has
-- it run
abbrev pub unblocked : ℕ → Task → Task
unblocked time t =
    if is_over time t.condition then starts time t (next_segment t.cursor time) else t

-- PART 4. A task that is placed belongs to its CPU
abbrev pub with_cpu : Option ℕ → Task → Task
with_cpu None t = t
with_cpu (Some cpu) t = record t { cpu = cpu }

abbrev pub with_last_cpu : Places → Task → Task
with_last_cpu places t = with_cpu (position (is_task t.number) places) t

-- PART 6. With work left, what is left of the budget decides
abbrev pub running_on : Task → Task
running_on t = record t { condition = if is_spent t.server then Throttled else Ready }

-- a task that stops contending at a time, and what it does then
abbrev pub stopped : ℕ → Condition → Task → Task
stopped time condition t =
    record t { condition = condition; zero_lag = lag.zero_lag t.params time t.server }

abbrev pub went_on : ℕ → Segment → Task → Task
went_on time (RunFor n) t = running_on (record t { work = n })
went_on time (Until u) t = stopped time (Blocked u) t
went_on time WaitFor t = stopped time Waiting t
went_on time End t = stopped time Leaving t

abbrev pub goes_on : ℕ → Task → SegmentAndCursor → Task
goes_on time t a = went_on time a.segment (record t { cursor = a.cursor })

-- at the end of its work a task asks its script
abbrev pub after_charge : ℕ → Task → Task
after_charge time t =
    if t.work == 0 then goes_on time t (next_segment t.cursor time) else running_on t

-- a tick of running at a rate: the budget falls by the rate, and the work by one
abbrev pub ran : ℕ → ℕ → Task → Task
ran time rate t =
    after_charge (time + 1) (record t { server = charged rate 1 t.server; work = t.work - 1 })
