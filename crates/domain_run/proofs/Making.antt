-- Changes of one task: when one does nothing, what it keeps, and what it is to the list and its run
-- queue.
use Rattle.std.proofs.Common.{◌≡◌, ℕ, ◌^◌, ◌<◌, ◌≤◌, List, length, get_or, set, refl, sym, ap, subst, ◌∙◌}
use Rattle.domain_run.specs.declared.task.Task.{Task}
use Rattle.domain_run.specs.declared.transition.Transition.{Transition}
use Rattle.domain_run.specs.declared.transition.Transition.TheVariants.{Replenish, Settle, Unblock, Run, RunDeferring, Defer, TakeBack, Regrade, Release, End, Depart}
use Rattle.domain_run.specs.declared.run_queue.RunQueue.{RunQueue}
use Rattle.domain_run.specs.Parts.{replenish_due, settled, unblocked}
use Rattle.domain_run.specs.private.RunQueue.{status_of, IsCounted, MayApply, IsApplied}
use Rattle.domain_run.specs.private.TaskTable.{task_after, timers_served, Fits, IsPart}
use Rattle.domain_run.specs.private.Timers.{due_of}
use Rattle.domain_run.proofs.Keeping.{same_replenished, same_settled, same_unblocked}
use Rattle.domain_run.proofs.Counting.{IsFit, same_fit, home_at, ended_same, may_apply, turned}
use Rattle.domain_run.proofs.Paying.{same_ran_until}
use Rattle.domain_run.proofs.Due.{still_at}

-- ---- what a change keeps

made_fit : (cpus time : ℕ) (transition : Transition) (t : Task) → Fits cpus transition → t.params.bw ≤ 2 ^ 26 → t.cpu < cpus → IsFit cpus t (task_after time transition t)
made_fit cpus time Replenish t fits short home = same_fit cpus t (replenish_due time t) (same_replenished time t) short home
made_fit cpus time Settle t fits short home = same_fit cpus t (settled time t) (same_settled time t) short home
made_fit cpus time Unblock t fits short home = same_fit cpus t (unblocked time t) (same_unblocked time t) short home
made_fit cpus time (Run ticks left) t fits short home = same_fit cpus t (task_after time (Run ticks left) t) (same_ran_until time ticks left t) short home
made_fit cpus time (RunDeferring ticks left) t fits short home = let a = same_ran_until time ticks left t in same_fit cpus t (task_after time (RunDeferring ticks left) t) (record { number = a.number; params = a.params; cpu = a.cpu }) short home
made_fit cpus time Defer t fits short home = record { number = refl; short = short; home = home; cpu = refl }
made_fit cpus time (TakeBack lag) t fits short home = record { number = refl; short = short; home = home; cpu = refl }
made_fit cpus time (Regrade params) t fits short home = record { number = refl; short = fits; home = home; cpu = refl }
made_fit cpus time Release t fits short home = record { number = refl; short = short; home = home; cpu = refl }
made_fit cpus time End t fits short home = same_fit cpus t (task_after time End t) (ended_same time t) short home
made_fit cpus time Depart t fits short home = record { number = refl; short = short; home = home; cpu = refl }

-- its task belongs to its CPU still
pub made_cpu : (time : ℕ) (transition : Transition) (t : Task) → (task_after time transition t).cpu ≡ t.cpu
made_cpu time Replenish t = (same_replenished time t).cpu
made_cpu time Settle t = (same_settled time t).cpu
made_cpu time Unblock t = (same_unblocked time t).cpu
made_cpu time (Run ticks left) t = (same_ran_until time ticks left t).cpu
made_cpu time (RunDeferring ticks left) t = (same_ran_until time ticks left t).cpu
made_cpu time Defer t = refl
made_cpu time (TakeBack lag) t = refl
made_cpu time (Regrade params) t = refl
made_cpu time Release t = refl
made_cpu time End t = (ended_same time t).cpu
made_cpu time Depart t = refl

pub place_fit : (cpus : ℕ) (queue : RunQueue) (tasks : List Task) (p time : ℕ) (transition : Transition) (d : Task) → p < length tasks → Fits cpus transition → IsCounted cpus queue tasks → IsFit cpus (get_or tasks p d) (task_after time transition (get_or tasks p d))
place_fit cpus queue tasks p time transition d h fits is = made_fit cpus time transition (get_or tasks p d) fits (is.task_table.short p d h) (home_at cpus queue tasks p d h is)

-- ---- the task at a place

pub place_may : (cpus : ℕ) (queue : RunQueue) (tasks : List Task) (p time : ℕ) (transition : Transition) (x : Task) → p < length tasks → x ≡ get_or tasks p x → Fits cpus transition → IsCounted cpus queue tasks → MayApply p x.number x.cpu queue (status_of x) (status_of (task_after time transition x))
place_may cpus queue tasks p time transition x h read fits is =
    subst (λ u. MayApply p u.number u.cpu queue (status_of u) (status_of (task_after time transition u))) (sym read) (may_apply cpus queue tasks p x (task_after time transition (get_or tasks p x)) h (place_fit cpus queue tasks p time transition x h fits is) is)

pub place_counted : (cpus : ℕ) (queue new : RunQueue) (tasks : List Task) (p time : ℕ) (transition : Transition) (x y : Task) → p < length tasks → x ≡ get_or tasks p x → Fits cpus transition → y ≡ task_after time transition x → IsApplied p x.number x.cpu (status_of x) (status_of y) queue new → IsCounted cpus queue tasks → IsCounted cpus new (set tasks p y)
place_counted cpus queue new tasks p time transition x y h read fits is has counted =
    let fit : IsFit cpus (get_or tasks p x) y = subst (IsFit cpus (get_or tasks p x)) (sym (is ∙ ap (task_after time transition) read)) (place_fit cpus queue tasks p time transition x h fits counted) in
    turned cpus queue new tasks p x y h fit (subst (λ u. IsApplied p u.number u.cpu (status_of u) (status_of y) queue new) read has) counted

-- ---- parts 1 to 3

pub replenish_part : (time : ℕ) → time < 2 ^ 42 → IsPart time Replenish
replenish_part time early = record { fits = λ cpus. tt; may = λ t. early; passes = λ t h. rw (still_at time t h).due refl }

pub settle_part : (time : ℕ) → IsPart time Settle
settle_part time = record { fits = λ cpus. tt; may = λ t. tt; passes = λ t h. rw (still_at time t h).lag refl }

pub served_passes : (time : ℕ) (t : Task) → time < due_of t → timers_served time t ≡ t
served_passes time t h = rw (still_at time t h).due (rw (still_at time t h).lag refl)

pub unblock_part : (time : ℕ) → time < 2 ^ 42 → IsPart time Unblock
unblock_part time early = record { fits = λ cpus. tt; may = λ t. early; passes = λ t h. rw (still_at time t h).over refl }
