-- One tick of a domain, in six parts (own, over the rules that the parts cite).
use Rattle.std.specs.Prelude.{ℕ, zero, suc, ◌+◌, ◌||◌, if◌then◌else◌, List, ◌++◌, map, filter, is_some, unwrap_or}
use Rattle.grub_rules.specs.declared.share.Share.{Share}
use Rattle.grub_rules.specs.Sums.{total_bw, uinact}
use Rattle.grub_rules.specs.Rate as reclaiming
use Rattle.edf_pick.specs.Places.{Places, placed, is_on_cpu}
use Rattle.edf_pick.specs.declared.candidate.Candidate.{Candidate}
use Rattle.domain_run.specs.declared.task.Task.{Task}
use Rattle.domain_run.specs.Conditions.{is_ready, is_contending}
use Rattle.domain_run.specs.Parts.{replenish_due, settled, is_listed, unblocked, with_last_cpu, ran}
use Rattle.domain_run.specs.Switches.{switches_from}
use Rattle.domain_run.specs.Domain.{Domain}

-- a task as the sums see it: active while it contends or has a zero-lag time ahead
abbrev pub share_of : Task → Share
share_of t =
    record {
      cpu = t.cpu;
      bw = t.params.bw;
      active = is_contending t.condition || is_some t.zero_lag;
    }

abbrev pub shares : List Task → List Share
shares tasks = map share_of tasks

-- the bandwidth of all listed tasks
abbrev pub sum_of : List Task → ℕ
sum_of tasks = total_bw (shares tasks)

-- a ready task as the choice sees it; it has a deadline
abbrev pub candidate_of : Task → Candidate
candidate_of t =
    record { deadline = unwrap_or t.server.deadline 0; number = t.number; home = t.cpu }

abbrev pub candidates : List Task → List Candidate
candidates tasks = map candidate_of (filter (λ t. is_ready t.condition) tasks)

-- parts 1 to 3: replenished, settled, off the list where they have left, and unblocked; so the
-- choice finds them
abbrev pub prepared : ℕ → List Task → List Task
prepared time tasks =
    map (unblocked time) (filter is_listed (map (settled time) (map (replenish_due time) tasks)))

-- parts 4 and 5: the new occupants, to whom their CPUs become home, and the switches
abbrev pub with_places : Domain → List Task → Places → Domain
with_places d tasks places = record d {
  tasks = map (with_last_cpu places) tasks;
  curr = places;
  switches = d.switches ++ switches_from d.time tasks 0 d.curr places;
}

abbrev pub with_prepared : Domain → List Task → Domain
with_prepared d tasks = with_places d tasks (placed d.cpus (candidates tasks) d.curr)

-- what begins in a tick: parts 1 to 5
abbrev pub with_tick_begun : Domain → Domain
with_tick_begun d = with_prepared d (prepared d.time d.tasks)

-- the rate of a running task, from the sums as they are after part 4
abbrev pub rate_of : Domain → Task → ℕ
rate_of d t =
    reclaiming.rate t.params (uinact t.cpu (shares d.tasks)) (sum_of d.tasks) d.cpus d.limit

abbrev pub ran_if : Domain → Task → Task
ran_if d t = if is_on_cpu t.number d.curr then ran d.time (rate_of d t) t else t

-- what ends with a tick, part 6: every running task is charged
abbrev pub finished : Domain → Domain
finished d = record d { time = d.time + 1; tasks = map (ran_if d) d.tasks }

-- one tick
abbrev pub ticked : Domain → Domain
ticked d = finished (with_tick_begun d)

-- so many ticks
abbrev pub ticks : ℕ → Domain → Domain
ticks zero d = d
ticks (suc n) d = ticked (ticks n d)
