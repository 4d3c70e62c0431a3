-- What a domain keeps of its tasks beside their list, for the code's own contracts.
use Rattle.std.specs.Prelude.{ℕ, ◌+◌, ◌-◌, ◌<◌, ◌≤◌, ◌^◌, ◌≡◌, ◌≢◌, ◌⊎◌, Bool, true, if◌then◌else◌, List, [], ◌∷◌, length, map, slice_set, All, AllPairs, Option, Some, None, IfSome}
use Rattle.grub_rules.specs.Accounts.{AreAccounts, Holds, Exchanges}
use Rattle.grub_rules.specs.declared.share.Share.{Share}
use Rattle.edf_pick.specs.declared.candidate.Candidate.{Candidate}
use Rattle.edf_pick.specs.Order.{by_deadline, with_candidate, without_candidate}
use Rattle.edf_pick.specs.Schedule.{IsAtHome}
use Rattle.domain_run.specs.declared.task.Task.{Task}
use Rattle.domain_run.specs.declared.status.TaskStatus.{TaskStatus}
use Rattle.domain_run.specs.declared.run_queue.RunQueue.{RunQueue}
use Rattle.edf_pick.specs.Places.{Places}
use Rattle.domain_run.specs.Conditions.{is_ready}
use Rattle.domain_run.specs.Parts.{with_last_cpu}
use Rattle.domain_run.specs.Domain.{Domain}
use Rattle.domain_run.specs.Sound.{IsDomain}
use Rattle.domain_run.specs.Jump.{running_numbers}
use Rattle.domain_run.specs.Tick.{share_of, shares, candidate_of, candidates}
use Rattle.domain_run.specs.private.Timers.{due_of}

-- the deadline of a ready task, as the choice sees it
abbrev pub ready_at : Task → Option ℕ
ready_at t = if is_ready t.condition then Some (candidate_of t).deadline else None

-- a task as the sums see it, and as the choice does, and when it is due
abbrev pub status_of : Task → TaskStatus
status_of t = record {
  bw = (share_of t).bw;
  active =
      (share_of t).active;
  ready = ready_at t;
  due = due_of t;
}

-- what the sums see of one that belongs to a CPU
abbrev pub share_on : ℕ → TaskStatus → Share
share_on cpu s = record { cpu = cpu; bw = s.bw; active = s.active }

-- what the choice sees of one of a number, which belongs to a CPU
abbrev pub candidate : ℕ → ℕ → ℕ → Candidate
candidate number cpu deadline = record { deadline = deadline; number = number; home = cpu }

abbrev pub candidate_at : ℕ → ℕ → Option ℕ → Option Candidate
candidate_at number cpu None = None
candidate_at number cpu (Some deadline) = Some (candidate number cpu deadline)

abbrev pub ready_of : Task → Option Candidate
ready_of t = candidate_at t.number t.cpu (ready_at t)

-- THE INVARIANT: the sums are those of the list, the schedule has its ready tasks in order, and the
-- timers say when each is due
pub record QueueCounts (queue : RunQueue) (tasks : List Task) : Type 0 where
  pub sums : AreAccounts queue.accounts (shares tasks)
  pub order : queue.schedule.queue ≡ by_deadline (candidates tasks)
  pub due : queue.timers ≡ map due_of tasks

-- what a list of tasks keeps so that the sums fit, and the queue has each task once
pub record IsTaskTable (tasks : List Task) : Type 0 where
  pub few : length tasks ≤ 256
  pub short : All (λ t. t.params.bw ≤ 2 ^ 26) tasks
  pub numbered : AllPairs (λ a b. a.number ≢ b.number) tasks

-- the task that runs on a CPU belongs to it
abbrev pub AreHomed : Places → List Task → Type 0
AreHomed places tasks = All (λ t. with_last_cpu places t ≡ t) tasks

-- a run queue of so many CPUs counts this list, and the task that runs on a CPU belongs to it
pub record IsCounted (cpus : ℕ) (queue : RunQueue) (tasks : List Task) : Type 0 where
  pub wide : length queue.accounts.all ≡ cpus
  pub counts : QueueCounts queue tasks
  pub task_table : IsTaskTable tasks
  pub homed : AreHomed queue.schedule.places tasks

-- a queue with and without a task that is ready, or is not
abbrev pub with_ready : Option Candidate → List Candidate → List Candidate
with_ready None queue = queue
with_ready (Some c) queue = with_candidate c queue

abbrev pub without_ready : Option Candidate → List Candidate → List Candidate
without_ready None queue = queue
without_ready (Some c) queue = without_candidate c queue

-- the task at a place of those that are counted, of a number, which belongs to a CPU, may turn from
-- `before` to `after`
pub record MayApply (place number cpu : ℕ) (queue : RunQueue) (before after : TaskStatus)
    : Type 0 where
  pub within : place < length queue.timers
  pub held : Holds queue.accounts (share_on cpu before)
  pub fits : queue.accounts.total - before.bw + after.bw < 2 ^ 64
  pub room : length (without_ready (candidate_at number cpu before.ready)
      queue.schedule.queue) < 256
  pub numbered : IfSome (candidate_at number cpu after.ready)
      (λ c. All (λ a. a.number ≢ c.number)
      (without_ready (candidate_at number cpu before.ready) queue.schedule.queue))
  pub homed : IfSome (candidate_at number cpu after.ready) (λ c. IsAtHome queue.schedule.places c)

-- it has
pub record IsApplied (place number cpu : ℕ) (before after : TaskStatus) (old new : RunQueue)
    : Type 0 where
  pub sums : Exchanges old.accounts new.accounts (share_on cpu before ∷ [])
      (share_on cpu after ∷ [])
  pub order : ((before.ready ≡ after.ready) × (new.schedule.queue ≡ old.schedule.queue))
      ⊎ (new.schedule.queue ≡ with_ready (candidate_at number cpu after.ready)
      (without_ready (candidate_at number cpu before.ready) old.schedule.queue))
  pub places : new.schedule.places ≡ old.schedule.places
  pub due : ((before.due ≡ after.due) × (new.timers ≡ old.timers))
      ⊎ (new.timers ≡ slice_set old.timers place after.due)

-- room for the switches of one event at least, and no more than is noted
pub record IsRoom (cpus capacity noted : ℕ) : Type 0 where
  pub event : cpus ≤ capacity
  pub exact : capacity ≡ noted

-- what a state keeps: a domain, whose CPUs its task table has too, the tasks that run on its CPUs,
-- where that is listed, and for that list the room for so many that it was opened with, so it takes
-- no more. Its switches have the room that it notes, of one event's at least, so where none waits
-- there is room for an event
pub record IsState (d : Domain) (cpus : ℕ) (is_listed : Bool) (running : List ℕ)
    (running_capacity switch_capacity room : ℕ) : Type 0 where
  pub domain : IsDomain d
  pub wide : cpus ≡ d.cpus
  pub running_is : is_listed ≡ true → running ≡ running_numbers d.curr
  pub running_room : running_capacity ≡ d.cpus
  pub switch_room : IsRoom d.cpus switch_capacity room
