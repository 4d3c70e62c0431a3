-- What is logged of a task and of a CPU by the switches so far. Who has a CPU is logged as if it
-- kept it to the end of the run.
use Rattle.std.specs.Prelude.{ℕ, ◌+◌, ◌-◌, ◌==◌, if◌then◌else◌, List, [], ◌∷◌, fold, count_by, Option, Some, None}
use Rattle.domain_run.specs.Switch.{Switch}
use Rattle.run_figures.specs.declared.ran.Ran.{Ran}
use Rattle.run_figures.specs.declared.ran.Cpu.{Cpu}
use Rattle.run_figures.specs.Stays.{cpu_us, busy_us, placements, migrations}
use Rattle.run_figures.specs.Places.{if_number}

-- A TASK
abbrev pub last_from : ℕ → List ℕ → ℕ
last_from x [] = x
last_from x (y ∷ ys) = last_from y ys

abbrev pub last_of : List ℕ → Option ℕ
last_of [] = None
last_of (x ∷ xs) = Some (last_from x xs)

abbrev pub ran_by : ℕ → List Switch → ℕ → Ran
ran_by time switches number = record {
  number = number;
  cpu_us = cpu_us time switches number;
  migrated = migrations switches number;
  last = last_of (placements number switches);
}

-- with one stay more, of n microseconds on a CPU
abbrev pub moves_to : ℕ → Option ℕ → ℕ
moves_to cpu None = 0
moves_to cpu (Some last) = if cpu == last then 0 else 1

abbrev pub with_stay : ℕ → ℕ → Ran → Ran
with_stay cpu us r = record r {
  cpu_us = r.cpu_us + us;
  migrated = r.migrated + moves_to cpu r.last;
  last = Some cpu;
}

abbrev pub with_stay_of : Option ℕ → ℕ → ℕ → Ran → Ran
with_stay_of None cpu us r = r
with_stay_of (Some n) cpu us r = if_number (λ r. r.number) n (with_stay cpu us) r

-- without the rest of its last stay
abbrev pub without_rest : ℕ → Ran → Ran
without_rest us r = record r { cpu_us = r.cpu_us - us }

abbrev pub without_rest_of : Option ℕ → ℕ → Ran → Ran
without_rest_of None us r = r
without_rest_of (Some n) us r = if_number (λ r. r.number) n (without_rest us) r

-- A CPU: who has it
abbrev pub who_from : Option ℕ → ℕ → List Switch → Option ℕ
who_from who cpu switches =
    fold (λ (who : Option ℕ) (s : Switch). if s.cpu == cpu then s.next else who) who switches

abbrev pub cpu_by : ℕ → List Switch → ℕ → Cpu
cpu_by time switches cpu = record {
  cpu = cpu;
  busy_us = busy_us time switches cpu;
  switches = count_by (λ s. s.cpu == cpu) switches;
  task = who_from None cpu switches;
}

-- how long it is busy with a task, or with none
abbrev pub busy_if : Option ℕ → ℕ → ℕ
busy_if None us = 0
busy_if (Some n) us = us

-- with one switch more, n microseconds before the end
abbrev pub with_switch : Switch → ℕ → Cpu → Cpu
with_switch s us c = record {
  cpu = c.cpu;
  busy_us = c.busy_us + busy_if s.next us - busy_if c.task us;
  switches = c.switches + 1;
  task = s.next;
}

abbrev pub with_switch_on : Switch → ℕ → Cpu → Cpu
with_switch_on s us c = if_number (λ c. c.cpu) s.cpu (with_switch s us) c

-- before the first that is logged
abbrev pub not_run : ℕ → Ran
not_run number = record { number = number; cpu_us = 0; migrated = 0; last = None }

abbrev pub idle : ℕ → Cpu
idle cpu = record { cpu = cpu; busy_us = 0; switches = 0; task = None }
