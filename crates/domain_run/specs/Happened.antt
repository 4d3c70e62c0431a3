-- What happens to the tasks of a domain, beside the switches: jobs that are released and end,
-- budgets that are spent and replenished (own; job, release and deadline as in sched(7),
-- "SCHED_DEADLINE", throttling and replenishment as in sched-deadline.rst, "2. Task scheduling").
use Rattle.std.specs.Prelude.{ℕ, zero, suc, ◌+◌, ◌-◌, ◌==◌, Bool, ◌&&◌, ◌||◌, nat_lt, if◌then◌else◌, List, [], ◌∷◌, ◌++◌, map, filter, position, unwrap_or}
use Rattle.std.specs.List.{flat_map}
use Rattle.cbs_rules.specs.Serving.{charged}
use Rattle.edf_pick.specs.Places.{Places, is_task, is_on_cpu}
use Rattle.domain_run.specs.declared.task.Task.{Task}
use Rattle.task_script.specs.declared.script.Segment.{Segment}
use Rattle.task_script.specs.declared.script.Segment.TheVariants.{Run as RunFor, Until, Wait as WaitFor, End}
use Rattle.domain_run.specs.declared.happened.What.{What}
use Rattle.domain_run.specs.declared.happened.What.TheVariants.{JobEnds, NextReleased, Spent, Cut, Replenished, Released, WokenSpent}
use Rattle.domain_run.specs.declared.happened.Happened.{Happened}
use Rattle.domain_run.specs.declared.call.Call.{Call}
use Rattle.domain_run.specs.declared.call.Call.TheVariants.{Leave, Advance, Depart}
use Rattle.task_script.specs.script.Segments.{passes_late_timer, next_segment}
use Rattle.domain_run.specs.Conditions.{is_throttled, is_over, has_come}
use Rattle.domain_run.specs.Parts.{replenish_due, settled, is_listed, unblocked, ran}
use Rattle.domain_run.specs.Domain.{Domain}
use Rattle.domain_run.specs.Tick.{with_tick_begun, rate_of, ticks}
use Rattle.domain_run.specs.Calls.{reply_to, is_refusal, after_call}

-- something that happens to a task at a time
abbrev pub happened_to : ℕ → Task → What → Happened
happened_to time t what = record { time = time; what = what; number = t.number; cpu = t.cpu }

-- the deadline of its server
abbrev pub due : Task → ℕ
due t = unwrap_or t.server.deadline 0

-- a job that is released at a time is due at the task's relative deadline
abbrev pub job_due : ℕ → Task → ℕ
job_due time t = time + t.params.deadline

-- WHERE A TICK ENDS. A job ends where its script, asked at the end of its work, has anything but
-- more work, or has that after a late timer: so much work is the next job's
abbrev pub logged_by_segment : ℕ → Task → Bool → Segment → List Happened
logged_by_segment time t late (RunFor n) =
    if late then
    happened_to time t JobEnds ∷ happened_to time t (NextReleased (job_due time t)) ∷ []
    else []
logged_by_segment time t late (Until u) = happened_to time t JobEnds ∷ []
logged_by_segment time t late WaitFor = happened_to time t JobEnds ∷ []
logged_by_segment time t late End = happened_to time t JobEnds ∷ []

abbrev pub logged_by_work : ℕ → Task → List Happened
logged_by_work time t =
    if t.work == 0
    then logged_by_segment time t (passes_late_timer t.cursor time)
    (next_segment t.cursor time).segment
    else []

-- a running task that is throttled now has spent its budget
abbrev pub logged_by_budget : ℕ → Task → List Happened
logged_by_budget time t =
    if is_throttled t.condition then happened_to time t (Spent (due t)) ∷ [] else []

-- of a task that ran a tick up to a time, at a rate
abbrev pub logged_by_run : ℕ → ℕ → Task → List Happened
logged_by_run time rate t =
    logged_by_work (time + 1) (record t { server = charged rate 1 t.server; work = t.work - 1 })
    ++ logged_by_budget (time + 1) (ran time rate t)

abbrev pub logged_if_ran : Domain → Task → List Happened
logged_if_ran d t = if is_on_cpu t.number d.curr then logged_by_run d.time (rate_of d t) t else []

-- WHERE A TICK BEGINS. A throttled task whose deadline has come has a new one
abbrev pub logged_by_replenishment : ℕ → Task → List Happened
logged_by_replenishment time t =
    if is_throttled t.condition && has_come time t.server.deadline
    then happened_to time t (Replenished (due (replenish_due time t))) ∷ [] else []

-- a job is released where a script that was asked has work; a server without budget is throttled
-- then
abbrev pub logged_by_wake : ℕ → Task → Task → Segment → List Happened
logged_by_wake time t woken (RunFor n) =
    happened_to time t (Released (job_due time t))
    ∷ (if is_throttled woken.condition then happened_to time t (WokenSpent (due woken)) ∷ []
    else [])
logged_by_wake time t woken _ = []

abbrev pub logged_by_unblocking : ℕ → Task → List Happened
logged_by_unblocking time t =
    if is_over time t.condition
    then logged_by_wake time t (unblocked time t) (next_segment t.cursor time).segment else []

-- THE ORDER: by what happens, then by CPU, then by number
abbrev pub kind_rank : What → ℕ
kind_rank JobEnds = 0
kind_rank (NextReleased deadline) = 1
kind_rank (Spent deadline) = 2
kind_rank Cut = 3
kind_rank (Replenished deadline) = 4
kind_rank (Released deadline) = 5
kind_rank (WokenSpent deadline) = 6

abbrev pub is_first : Happened → Happened → Bool
is_first a b =
    nat_lt (kind_rank a.what) (kind_rank b.what) || (kind_rank a.what == kind_rank b.what
    && (nat_lt a.cpu b.cpu || (a.cpu == b.cpu && nat_lt a.number b.number)))

-- in its place among others in order
abbrev pub with_happened : Happened → List Happened → List Happened
with_happened h [] = h ∷ []
with_happened h (other ∷ others) =
    if is_first h other then h ∷ other ∷ others else other ∷ with_happened h others

abbrev pub in_order : List Happened → List Happened
in_order [] = []
in_order (h ∷ others) = with_happened h (in_order others)

-- where its task runs on a CPU, on that one: the task belongs to it from then on
abbrev pub with_its_cpu : Places → Happened → Happened
with_its_cpu places h =
    record h { cpu = unwrap_or (position (is_task h.number) places) h.cpu }

-- A TICK: what its beginning logs, each on the CPU of its task after the placement, and what its
-- end
abbrev pub logged_to_begin : Domain → List Happened
logged_to_begin d = flat_map (logged_by_replenishment d.time) d.tasks
    ++ flat_map (logged_by_unblocking d.time)
    (filter is_listed (map (settled d.time) (map (replenish_due d.time) d.tasks)))

abbrev pub logged_by_beginning : Domain → List Happened
logged_by_beginning d = in_order (map (with_its_cpu (with_tick_begun d).curr) (logged_to_begin d))

abbrev pub logged_by_end : Domain → List Happened
logged_by_end d = in_order (flat_map (logged_if_ran d) d.tasks)

abbrev pub logged_by_tick : Domain → List Happened
logged_by_tick d = logged_by_beginning d ++ logged_by_end (with_tick_begun d)

-- of so many ticks
abbrev pub logged_by_ticks : ℕ → Domain → List Happened
logged_by_ticks zero d = []
logged_by_ticks (suc n) d = logged_by_ticks n d ++ logged_by_tick (ticks n d)

-- of so many ticks at once, the end of the last
abbrev pub logged_by_last_end : ℕ → Domain → List Happened
logged_by_last_end n d = logged_by_end (with_tick_begun (ticks (n - 1) d))

-- A CALL. Where a task ends by a call, or goes to another domain, its job is cut
abbrev pub logged_by_cut : Domain → ℕ → List Happened
logged_by_cut d number =
    map (λ t. happened_to d.time t Cut) (filter (λ t. t.number == number) d.tasks)

abbrev pub logged_by_granted : Domain → Call → List Happened
logged_by_granted d (Advance n) = logged_by_ticks n d
logged_by_granted d (Leave number) = logged_by_cut d number
logged_by_granted d (Depart number) = logged_by_cut d number
logged_by_granted d _ = []

abbrev pub logged_by_call : Domain → Call → List Happened
logged_by_call d c = if is_refusal (reply_to d c) then [] else logged_by_granted d c

-- A RUN
abbrev pub logged_by_calls : Domain → List Call → List Happened
logged_by_calls d [] = []
logged_by_calls d (c ∷ cs) = logged_by_call d c ++ logged_by_calls (after_call d c) cs
