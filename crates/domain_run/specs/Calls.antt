-- The calls on a domain, made between two ticks: replies and effects (own; the errors of
-- sched_setattr(2), and of the kernel's sched_dl_global_validate on sched_rt_runtime_us).
use Rattle.std.specs.Prelude.{ℕ, ◌+◌, ◌-◌, ◌%◌, ◌==◌, Bool, true, false, not, ◌&&◌, nat_lt, nat_le, if◌then◌else◌, List, [], ◌∷◌, ◌++◌, length, map, filter, find, Option, Some, None, pos}
use Rattle.std.specs.List.{list_any}
use Rattle.attr_check.specs.ParamsView.{ParamsView}
use Rattle.attr_check.specs.Ratio.{cap}
use Rattle.task_script.specs.script.ScriptView.{ScriptView}
use Rattle.task_script.specs.script.Segments.{begun_at}
use Rattle.domain_run.specs.declared.task.Task.{Task}
use Rattle.domain_run.specs.declared.task.Condition.TheVariants.{Blocked, Leaving}
use Rattle.domain_run.specs.declared.call.Call.{Call}
use Rattle.domain_run.specs.declared.call.Call.TheVariants.{Admit, Regrade, Wake, Leave, Advance, Limit, Depart, Arrive}
use Rattle.domain_run.specs.declared.call.Reply.{Reply}
use Rattle.domain_run.specs.declared.call.Reply.TheVariants.{Admitted, Changed, Woken, Left, Done, Set, Departed, Full, Twice, Busy, NotListed, NotWaiting}
use Rattle.domain_run.specs.Conditions.{is_contending, is_waiting, is_leaving}
use Rattle.domain_run.specs.Parts.{stopped}
use Rattle.domain_run.specs.Domain.{Domain}
use Rattle.domain_run.specs.Tick.{sum_of, ticks}

-- ADMIT. The tests in their order: 256 tasks are listed; the number was admitted before; the
-- bandwidth does not fit
abbrev pub admit_reply : Domain → ℕ → ParamsView → Reply
admit_reply d number params =
    if nat_le 256 (length d.tasks) then Full
    else (if list_any (λ n. n == number) d.used then Twice
    else (if nat_lt (cap d.cpus d.limit) (sum_of d.tasks + params.bw) then Busy (sum_of d.tasks)
    else Admitted))

-- a new task is blocked until its start, without deadline and budget; before its first placement it
-- belongs to CPU number mod M
abbrev pub new_task : Domain → ℕ → List ℕ → ParamsView → ℕ → ScriptView → Task
new_task d number name params delay script = record {
  number = number;
  name = name;
  params = params;
  server = record { deadline = None; left = pos 0 };
  zero_lag = None;
  cpu = number % d.cpus;
  condition = Blocked (d.time + delay);
  work = 0;
  cursor = begun_at script (d.time + delay);
}

-- a number in its place among rising ones
abbrev pub with_number : ℕ → List ℕ → List ℕ
with_number n [] = n ∷ []
with_number n (m ∷ ms) = if nat_lt n m then n ∷ m ∷ ms else m ∷ with_number n ms

abbrev pub with_task_listed : Domain → Task → Domain
with_task_listed d t = record d { tasks = d.tasks ++ t ∷ []; used = with_number t.number d.used }

-- the task of a number, where it is listed and has not ended
abbrev pub task_of : Domain → ℕ → Option Task
task_of d number = find (λ t. t.number == number && not (is_leaving t.condition)) d.tasks

-- a change of the task of a number alone
abbrev pub of_number : ℕ → (Task → Task) → Task → Task
of_number number f t = if t.number == number then f t else t

abbrev pub with_task_changed : Domain → ℕ → (Task → Task) → Domain
with_task_changed d number f = record d { tasks = map (of_number number f) d.tasks }

-- REGRADE. The bandwidth does not fit the domain, or the domain's bandwidth word refused it
abbrev pub word_reply : Option ℕ → Reply
word_reply None = Changed
word_reply (Some s) = Busy s

abbrev pub regrade_reply : Domain → ParamsView → Option ℕ → Option Task → Reply
regrade_reply d params word None = NotListed
regrade_reply d params word (Some t) =
    if nat_lt (cap d.cpus d.limit) (sum_of d.tasks - t.params.bw + params.bw)
    then Busy (sum_of d.tasks) else word_reply word

-- the new parameters hold at once; deadline, budget and an armed zero-lag time stay
abbrev pub with_new_params : ParamsView → Task → Task
with_new_params params t = record t { params = params }

-- WAKE. A task that waits is released: its time of blocking is over, so it asks its script in the
-- next tick. It wakes there, where the script has it run
abbrev pub wake_reply : Option Task → Reply
wake_reply None = NotListed
wake_reply (Some t) = if is_waiting t.condition then Woken else NotWaiting

abbrev pub blocked_until : ℕ → Task → Task
blocked_until time t = record t { condition = Blocked time }

-- LEAVE. A task that contends stops; any other keeps its zero-lag time
abbrev pub leave_reply : Option Task → Reply
leave_reply None = NotListed
leave_reply (Some t) = Left

abbrev pub ended_at : ℕ → Task → Task
ended_at time t =
    if is_contending t.condition then stopped time Leaving t else record t { condition = Leaving }

-- LIMIT. The bandwidth of the listed tasks is above CPUs times the new limit, or the domain's
-- bandwidth word refused it (EBUSY of a write to sched_rt_runtime_us: sched_dl_global_validate)
abbrev pub set_reply : Option ℕ → Reply
set_reply None = Set
set_reply (Some s) = Busy s

abbrev pub limit_reply : Domain → ℕ → Option ℕ → Reply
limit_reply d limit word =
    if nat_lt (cap d.cpus limit) (sum_of d.tasks) then Busy (sum_of d.tasks) else set_reply word

-- from now on admissions and rates go by the new limit; no task changes
abbrev pub with_limit : ℕ → Domain → Domain
with_limit limit d = record d { limit = limit }

-- DEPART. A task goes to another domain: it is off the list at once, and its zero-lag time with it.
-- Its number stays among those that were admitted (own; a task has its bandwidth in one root
-- domain, sched-deadline.rst on cpusets)
abbrev pub depart_reply : Option Task → Reply
depart_reply None = NotListed
depart_reply (Some t) = Departed

abbrev pub is_other : ℕ → Task → Bool
is_other number t = not (t.number == number)

abbrev pub after_departure : Domain → ℕ → Domain
after_departure d number = record d { tasks = filter (is_other number) d.tasks }

-- ARRIVE. A task comes from another domain. The clocks of two domains are apart, so it begins anew:
-- as one that is admitted without a delay (own)

-- the reply to a call
abbrev pub reply_to : Domain → Call → Reply
reply_to d (Admit number name params delay script) = admit_reply d number params
reply_to d (Regrade number params word) = regrade_reply d params word (task_of d number)
reply_to d (Wake number) = wake_reply (task_of d number)
reply_to d (Leave number) = leave_reply (task_of d number)
reply_to d (Advance n) = Done n
reply_to d (Limit limit word) = limit_reply d limit word
reply_to d (Depart number) = depart_reply (task_of d number)
reply_to d (Arrive number name params script) = admit_reply d number params

abbrev pub is_refusal : Reply → Bool
is_refusal Admitted = false
is_refusal Changed = false
is_refusal Woken = false
is_refusal Left = false
is_refusal (Done n) = false
is_refusal Set = false
is_refusal Departed = false
is_refusal _ = true

-- what a call does where it is not refused
abbrev pub after_granted : Domain → Call → Domain
after_granted d (Admit number name params delay script) =
    with_task_listed d (new_task d number name params delay script)
after_granted d (Regrade number params word) = with_task_changed d number (with_new_params params)
after_granted d (Wake number) = with_task_changed d number (blocked_until d.time)
after_granted d (Leave number) = with_task_changed d number (ended_at d.time)
after_granted d (Advance n) = ticks n d
after_granted d (Limit limit word) = with_limit limit d
after_granted d (Depart number) = after_departure d number
after_granted d (Arrive number name params script) =
    with_task_listed d (new_task d number name params 0 script)

-- a refused call changes nothing
abbrev pub after_call : Domain → Call → Domain
after_call d c = if is_refusal (reply_to d c) then d else after_granted d c
