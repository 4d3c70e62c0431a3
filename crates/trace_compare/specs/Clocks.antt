-- How the recording's clock differs from the model's (own).
use Rattle.std.specs.Prelude.{ℕ, ◌+◌, ◌-◌, ◌<◌, ◌≤◌, ◌^◌}
use Rattle.trace_compare.specs.declared.clock.ClockShift.{ClockShift}

-- the times of a text are below it: 2^61 microseconds
abbrev pub time_limit : ℕ
time_limit = 2305843009213693952

-- both clocks show the same time
abbrev pub no_shift : ClockShift
no_shift = record { ahead = 0; behind = 0 }

-- the shift under which a time of the model and one of the recording are the same moment
abbrev pub shift_between : ℕ → ℕ → ClockShift
shift_between model recorded = record { ahead = recorded - model; behind = model - recorded }

-- one shift is at most another
abbrev pub IsShiftUpTo : ClockShift → ClockShift → Type 0
IsShiftUpTo most s = s.ahead + most.behind ≤ most.ahead + s.behind

-- it is no longer than the times of a text
pub record IsSmallShift (s : ClockShift) : Type 0 where
  pub ahead : s.ahead < 2 ^ 61
  pub behind : s.behind ≤ 2 ^ 61
