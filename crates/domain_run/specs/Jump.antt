-- Many ticks at once (own): between two events each tick does the same to every task.
use Rattle.std.specs.Prelude.{ℕ, ℤ, pos, ◌+◌, ◌-◌, ◌*◌, ◌^◌, ◌≤◌, ◌<ℤ◌, ◌-ℤ◌, ◌≡◌, ◌==◌, min, if◌then◌else◌, List, [], ◌∷◌, length, find, slice_get, slice_index_or, Option, Some, None, option_map}
use Rattle.std.specs.List.{filter_map}
use Rattle.grub_rules.specs.Sums.{uinact}
use Rattle.grub_rules.specs.Rate as reclaiming
use Rattle.edf_pick.specs.Places.{Places}
use Rattle.domain_run.specs.declared.task.Task.{Task}
use Rattle.domain_run.specs.declared.task.Condition.{Condition}
use Rattle.domain_run.specs.declared.task.Condition.TheVariants.{Ready, Throttled, Blocked, Waiting, Leaving}
use Rattle.domain_run.specs.declared.running.Running.{Running}
use Rattle.domain_run.specs.Conditions.{is_throttled}
use Rattle.domain_run.specs.Parts.{is_listed}
use Rattle.domain_run.specs.Domain.{Domain}
use Rattle.domain_run.specs.Tick.{shares, sum_of, with_tick_begun}
use Rattle.domain_run.specs.Sound.{IsPlacement}
use Rattle.limits.specs.Limits.{clock_end}

-- A TICK UNDER WAY: its parts 1 to 5 are done, and the clock is at its end
abbrev pub under_way : Domain → Domain
under_way d = record (with_tick_begun d) { time = d.time + 1 }

-- such a domain, where each task that runs on a CPU may
pub record IsUnderWay (d : Domain) : Type 0 where
  pub before : Domain
  pub begun : d ≡ under_way before
  pub placed : IsPlacement d

-- WHO RUNS. Their numbers, by CPU
abbrev pub running_numbers : Places → List ℕ
running_numbers places = filter_map (λ (occupant : Option ℕ). occupant) places

-- what the rate of a running task depends on, and for how long it may run
abbrev pub running_of : Domain → Task → Running
running_of d t =
    record {
      number = t.number;
      params = t.params;
      uinact = uinact t.cpu (shares d.tasks);
      left = t.server.left;
      work = t.work;
    }

abbrev pub running_if : Domain → Option ℕ → Option Running
running_if d None = None
running_if d (Some number) = option_map (running_of d) (find (λ t. t.number == number) d.tasks)

-- the i-th running task by CPU
abbrev pub running : Domain → ℕ → Option Running
running d i = running_if d (slice_get (running_numbers d.curr) i)

-- EVENTS. When parts 1 to 3 have something to do to a task: it is replenished, its zero-lag time
-- comes, it asks its script, or it goes off the list, which is at once
abbrev pub replenished_at : Task → Option ℕ
replenished_at t = if is_throttled t.condition then t.server.deadline else None

abbrev pub asks_at : Condition → Option ℕ
asks_at (Blocked u) = Some u
asks_at Ready = None
asks_at Throttled = None
asks_at Waiting = None
asks_at Leaving = None

abbrev pub gone_at : Task → Option ℕ
gone_at t = if is_listed t then None else Some 0

-- the ticks from a time to another that may come
abbrev pub ticks_to : ℕ → Option ℕ → ℕ
ticks_to time None = clock_end - 1
ticks_to time (Some u) = u - time

-- the ticks from a time to the first of these
abbrev pub ticks_to_due_of : ℕ → Task → ℕ
ticks_to_due_of time t =
    min (min (ticks_to time (replenished_at t)) (ticks_to time t.zero_lag))
    (min (ticks_to time (asks_at t.condition)) (ticks_to time (gone_at t)))

-- to the first of all tasks
abbrev pub ticks_to_due : ℕ → List Task → ℕ
ticks_to_due time [] = clock_end - 1
ticks_to_due time (t ∷ tasks) = min (ticks_to_due_of time t) (ticks_to_due time tasks)

-- from the beginning of the tick under way to the next tick in which parts 1 to 3 have something to
-- do, 2^42 where there is none
abbrev pub ticks_to_event : Domain → ℕ
ticks_to_event d = 1 + ticks_to_due d.time d.tasks

-- CHARGES. The rate of a running task
abbrev pub rate_for : Domain → Running → ℕ
rate_for d r = reclaiming.rate r.params r.uinact (sum_of d.tasks) d.cpus d.limit

-- what is left of a budget after so many ticks at that rate: no work ends before the last of them,
-- nor is a budget spent
pub record IsCharged (d : Domain) (ticks : ℕ) (r : Running) (left : ℤ) : Type 0 where
  pub worked : ticks ≤ r.work
  pub lasted : pos (rate_for d r * (ticks - 1)) <ℤ r.left
  pub charged : left ≡ r.left -ℤ pos (rate_for d r * ticks)

-- of each running task, by CPU
pub record AreCharged (d : Domain) (ticks : ℕ) (budgets : List ℤ) : Type 0 where
  pub many : length budgets ≡ length (running_numbers d.curr)
  pub each : (i : ℕ) (r : Running) → running d i ≡ Some r
      → IsCharged d ticks r (slice_index_or budgets i (pos 0))
