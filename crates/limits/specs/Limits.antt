-- The limits of the model (own, but for the unit).
use Rattle.std.specs.Prelude.{ℕ, ◌^◌}

-- one microsecond of budget at rate one, and the bandwidth of one whole CPU (the kernel's BW_UNIT,
-- 2^20)
abbrev pub unit : ℕ
unit = 1048576

-- the least limit of a domain, in 1/2^20 of a CPU: one percent, rounded down
abbrev pub least_limit : ℕ
least_limit = 10485

-- every time of a domain's clock is below this, in microseconds
abbrev pub clock_end : ℕ
clock_end = 2 ^ 42

-- every absolute deadline is below this, in microseconds
abbrev pub deadline_end : ℕ
deadline_end = 2 ^ 48

-- the most ticks of one advance, in microseconds: a minute
abbrev pub max_advance : ℕ
max_advance = 60000000

-- the largest number of a script: each time, in microseconds, and each count is at most this
abbrev pub max_script_number : ℕ
max_script_number = 1000000000

-- every number of a task is below this
abbrev pub task_number_end : ℕ
task_number_end = 65536

-- the most entries of the history of a domain
abbrev pub max_history : ℕ
max_history = 65536
