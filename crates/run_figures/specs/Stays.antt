-- The time of tasks on CPUs, read off the switches (own).
use Rattle.std.specs.Prelude.{ℕ, ◌+◌, ◌-◌, ◌==◌, if◌then◌else◌, List, [], ◌∷◌, ◌++◌, filter, map, sum_by, Option, Some, None}
use Rattle.domain_run.specs.Switch.{Switch}
use Rattle.edf_pick.specs.Places.{is_task}

-- when a CPU next switches, or the end of the run where it does not
abbrev pub until : ℕ → ℕ → List Switch → ℕ
until time cpu [] = time
until time cpu (s ∷ ss) = if s.cpu == cpu then s.time else until time cpu ss

-- a task on a CPU, from the switch by which it comes to the next one of this CPU
pub record Stay : Type 0 where
  pub number : ℕ
  pub cpu : ℕ
  pub us : ℕ

abbrev pub stays_by : Switch → ℕ → Option ℕ → List Stay
stays_by s next None = []
stays_by s next (Some n) = record { number = n; cpu = s.cpu; us = next - s.time } ∷ []

abbrev pub stays : ℕ → List Switch → List Stay
stays time [] = []
stays time (s ∷ ss) = stays_by s (until time s.cpu ss) s.next ++ stays time ss

-- the CPU time of a task: all its stays
abbrev pub cpu_us : ℕ → List Switch → ℕ → ℕ
cpu_us time switches number =
    sum_by (λ s. s.us) (filter (λ s. s.number == number) (stays time switches))

-- how long a CPU was busy: all stays on it
abbrev pub busy_us : ℕ → List Switch → ℕ → ℕ
busy_us time switches cpu =
    sum_by (λ s. s.us) (filter (λ s. s.cpu == cpu) (stays time switches))

-- the CPUs on which a task was placed, one after another
abbrev pub placements : ℕ → List Switch → List ℕ
placements number switches = map (λ s. s.cpu) (filter (λ s. is_task number s.next) switches)

-- how often one is another than the one before it
abbrev pub changes_from : ℕ → List ℕ → ℕ
changes_from cpu [] = 0
changes_from cpu (c ∷ cs) = (if c == cpu then 0 else 1) + changes_from c cs

abbrev pub changes : List ℕ → ℕ
changes [] = 0
changes (c ∷ cs) = changes_from c cs

-- how often a task migrated: it was placed on another CPU than that on which it ran last
abbrev pub migrations : List Switch → ℕ → ℕ
migrations switches number = changes (placements number switches)
