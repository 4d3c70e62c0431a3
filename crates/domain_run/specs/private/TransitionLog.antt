-- What transitions of tasks log, for the code's own contracts.
use Rattle.std.specs.Prelude.{ℕ, ℤ, pos, ◌≡◌, ◌≢◌, ◌-◌, ◌<◌, ◌==◌, ◌&&◌, ◌||◌, ◌⊎◌, not, false, Bool, if◌then◌else◌, List, [], ◌∷◌, ◌++◌, length, map, filter, AllPairs, slice_index_or, Option, Some, None}
use Rattle.std.specs.List.{flat_map}
use Rattle.edf_pick.specs.Places.{Places}
use Rattle.domain_run.specs.declared.task.Task.{Task}
use Rattle.domain_run.specs.declared.transition.Transition.{Transition}
use Rattle.domain_run.specs.declared.transition.Transition.TheVariants.{Replenish, Settle, Unblock, Run, RunDeferring, Defer, TakeBack, Regrade, Release, End, Depart}
use Rattle.domain_run.specs.declared.happened.What.{What}
use Rattle.domain_run.specs.declared.happened.What.TheVariants.{JobEnds, NextReleased, Spent, Replenished, Released, WokenSpent}
use Rattle.domain_run.specs.declared.happened.Happened.{Happened}
use Rattle.domain_run.specs.declared.transition_log.Before.{Before}
use Rattle.domain_run.specs.declared.transition_log.LogEntries.{LogEntries}
use Rattle.domain_run.specs.Conditions.{is_ready, is_throttled, is_contending, is_over}
use Rattle.domain_run.specs.Happened.{happened_to, due, job_due, logged_by_work, logged_by_budget, logged_by_replenishment, logged_by_unblocking, kind_rank, in_order, with_its_cpu}
use Rattle.task_script.specs.script.Segments.{passes_late_timer}
use Rattle.domain_run.specs.Parts.{replenish_due, settled, is_listed}
use Rattle.domain_run.specs.private.Paying.{ran_until, index_of}
use Rattle.domain_run.specs.private.Timers.{due_of}

-- CHANGES. So many ticks of running until a time, logged at their end
abbrev pub logged_until : ℕ → ℕ → ℤ → Task → List Happened
logged_until time ticks left t =
    logged_by_work time (record t {
      server = record t.server { left = left };
      work = t.work
          - ticks;
    })
    ++ logged_by_budget time (ran_until time ticks left t)

-- what a transition of a task logs; that of a call logs nothing here
abbrev pub logged_by_transition : ℕ → Transition → Task → List Happened
logged_by_transition time Replenish t = logged_by_replenishment time t
logged_by_transition time Settle t = []
logged_by_transition time Unblock t = logged_by_unblocking time t
logged_by_transition time (Run ticks left) t = logged_until time ticks left t
logged_by_transition time (RunDeferring ticks left) t = logged_until time ticks left t
logged_by_transition time Defer t = []
logged_by_transition time (TakeBack lag) t = []
logged_by_transition time (Regrade params) t = []
logged_by_transition time Release t = []
logged_by_transition time End t = []
logged_by_transition time Depart t = []

-- of so many ticks at once, by those who run
abbrev pub logged_paid_at : ℕ → ℕ → List ℤ → Option ℕ → Task → List Happened
logged_paid_at time ticks budgets None t = []
logged_paid_at time ticks budgets (Some i) t =
    logged_until time ticks (slice_index_or budgets i (pos 0)) t

abbrev pub logged_paid : ℕ → List ℕ → ℕ → List ℤ → Task → List Happened
logged_paid time running ticks budgets t = logged_paid_at time ticks budgets (index_of running t) t

-- parts 1 to 3 of a list, task by task
abbrev pub logged_of_parts : ℕ → List Task → List Happened
logged_of_parts time tasks = flat_map (logged_by_replenishment time) tasks
    ++ flat_map (logged_by_unblocking time)
    (filter is_listed (map (settled time) (map (replenish_due time) tasks)))

-- of one task alone
abbrev pub logged_of_task : ℕ → Task → List Happened
logged_of_task time t = logged_of_parts time (t ∷ [])

-- after the placement of part 4
abbrev pub logged_at_home : Places → ℕ → List Task → List Happened
logged_at_home places time tasks = in_order (map (with_its_cpu places) (logged_of_parts time tasks))

-- part 6 of a list, so many ticks at once
abbrev pub logged_in_pay : ℕ → List ℕ → ℕ → List ℤ → List Task → List Happened
logged_in_pay time running ticks budgets tasks =
    in_order (flat_map (logged_paid time running ticks budgets) tasks)

-- of the task of a number alone
abbrev pub logged_of_number : ℕ → (Task → List Happened) → Task → List Happened
logged_of_number number f t = if t.number == number then f t else []

-- AS THE CODE SEES IT: what is looked at before a change, and what is logged after it
abbrev pub is_late_in : ℕ → Transition → Task → Bool
is_late_in time Replenish t = false
is_late_in time Settle t = false
is_late_in time Unblock t = false
is_late_in time (Run ticks left) t = (t.work - ticks == 0) && passes_late_timer t.cursor time
is_late_in time (RunDeferring ticks left) t =
    (t.work - ticks == 0) && passes_late_timer t.cursor time
is_late_in time Defer t = false
is_late_in time (TakeBack lag) t = false
is_late_in time (Regrade params) t = false
is_late_in time Release t = false
is_late_in time End t = false
is_late_in time Depart t = false

abbrev pub look_of : ℕ → Transition → Task → Before
look_of time transition t =
    record { condition = t.condition; is_late = is_late_in time transition t }

abbrev pub logged_where : Bool → ℕ → Task → What → Option Happened
logged_where test time t what = if test then Some (happened_to time t what) else None

abbrev pub nothing : LogEntries
nothing = record { first = None; second = None; third = None }

abbrev pub logged_after_run : ℕ → Before → Task → LogEntries
logged_after_run time before t = record {
  first = logged_where (not (is_contending t.condition) || before.is_late) time t JobEnds;
  second = logged_where (is_contending t.condition && before.is_late) time t
      (NextReleased (job_due time t));
  third = logged_where (is_throttled t.condition) time t (Spent (due t));
}

abbrev pub entries_after : ℕ → Transition → Before → Task → LogEntries
entries_after time Replenish before t = record nothing {
  first = logged_where (is_throttled before.condition && is_ready t.condition) time t
      (Replenished (due t));
}
entries_after time Settle before t = nothing
entries_after time Unblock before t = record nothing {
  first = logged_where (is_over time before.condition && is_contending t.condition) time t
      (Released (job_due time t));
  second = logged_where (is_over time before.condition && is_throttled t.condition) time t
      (WokenSpent (due t));
}
entries_after time (Run ticks left) before t = logged_after_run time before t
entries_after time (RunDeferring ticks left) before t = logged_after_run time before t
entries_after time Defer before t = nothing
entries_after time (TakeBack lag) before t = nothing
entries_after time (Regrade params) before t = nothing
entries_after time Release before t = nothing
entries_after time End before t = nothing
entries_after time Depart before t = nothing

abbrev pub one_of : Option Happened → List Happened
one_of None = []
one_of (Some h) = h ∷ []

abbrev pub all_of_logged : LogEntries → List Happened
all_of_logged t = one_of t.first ++ (one_of t.second ++ one_of t.third)

-- THE ORDER. Two of one time are apart by what happens, or by their task
abbrev pub IsApart : Happened → Happened → Type 0
IsApart a b = (kind_rank a.what ≢ kind_rank b.what) ⊎ (a.number ≢ b.number)

-- what is there from this place on is put in its order, where each two of it are apart
abbrev pub InOrderFrom : ℕ → List Happened → List Happened → Type 0
InOrderFrom from before after = (base others : List Happened) → length base ≡ from
    → before ≡ base ++ others → AllPairs IsApart others → after ≡ base ++ in_order others

-- so it is, each of it on the CPU of its task
abbrev pub GoHome : Places → ℕ → List Happened → List Happened → Type 0
GoHome places from before after = (base others : List Happened) → length base ≡ from
    → before ≡ base ++ others → AllPairs IsApart others
    → after ≡ base ++ in_order (map (with_its_cpu places) others)
