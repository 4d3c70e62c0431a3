-- The runs of a task: stretches on a CPU (own).
use Rattle.std.specs.Prelude.{ℕ, ◌+◌, ◌-◌, ◌^◌, ◌<◌, ◌≤◌, ◌==◌, Bool, nat_lt, nat_le, max, false, if◌then◌else◌, List, [], ◌∷◌, filter, find, unwrap_or, Option, None}
use Rattle.std.specs.Option.{option_map, option_map_or}
use Rattle.std.specs.List.{AllByRecursion, cons_option, list_all}
use Rattle.recorded_text.specs.declared.step.Step.{Step}
use Rattle.trace_compare.specs.declared.run.Run.{Run}

-- the time of the first switch on a CPU
abbrev pub next_time : ℕ → List Step → Option ℕ
next_time cpu steps = option_map (λ s. s.time) (find (λ s. s.cpu == cpu) steps)

abbrev pub is_of : ℕ → Step → Bool
is_of task s = option_map_or (λ t. t == task) s.task false

abbrev pub run_until : Step → ℕ → Run
run_until s t = record { start = s.time; «end» = max s.time t; cpu = s.cpu }

-- from a switch to the task up to the next switch on that CPU
abbrev pub run_from : ℕ → Step → List Step → Option Run
run_from task s steps =
    if is_of task s then option_map (run_until s) (next_time s.cpu steps) else None

-- a task's runs, by their switches; one that no other switch follows on its CPU is left out
unfoldable pub raw_runs : ℕ → List Step → List Run
raw_runs task [] = []
raw_runs task (s ∷ steps) = cons_option (run_from task s steps) (raw_runs task steps)

-- two runs as one, on the first one's CPU
abbrev pub both : Run → Run → Run
both a b = record { start = a.start; «end» = max a.«end» b.«end»; cpu = a.cpu }

-- a run that begins less than the noise after the one before it ends is one with it
unfoldable pub joined_on : ℕ → Run → List Run → List Run
joined_on noise run [] = run ∷ []
joined_on noise run (r ∷ rs) =
    if nat_lt r.start (run.«end» + noise) then joined_on noise (both run r) rs
    else run ∷ joined_on noise r rs

unfoldable pub joined_runs : ℕ → List Run → List Run
joined_runs noise [] = []
joined_runs noise (r ∷ rs) = joined_on noise r rs

abbrev pub length_of : Run → ℕ
length_of r = r.«end» - r.start

-- without those that are shorter than the noise
abbrev pub long_runs : ℕ → List Run → List Run
long_runs noise rs = filter (λ r. nat_le noise (length_of r)) rs

-- runs that are joined, without those that are shorter than the noise
abbrev pub runs_of : ℕ → List Run → List Run
runs_of noise raw = long_runs noise (joined_runs noise raw)

-- one after the other: each ends before the next begins
unfoldable pub InTurn : List Run → Type 0
InTurn [] = Unit {0}
InTurn (r ∷ rs) = (r.start ≤ r.«end») × AllByRecursion (λ q. r.«end» ≤ q.start) rs × InTurn rs

-- it does not end before it begins, and it ends below 2^61
pub record IsShort (r : Run) : Type 0 where
  pub forward : r.start ≤ r.«end»
  pub small : r.«end» < 2 ^ 61

-- whether all are longer than a time
abbrev pub are_longer : ℕ → List Run → Bool
are_longer time rs = list_all (λ r. nat_lt time (length_of r)) rs

-- the noise that was asked for, or else 100 us where the model's shortest run is longer, else 0
abbrev pub noise_of : Option ℕ → Bool → ℕ
noise_of asked longer = unwrap_or asked (if longer then 100 else 0)
