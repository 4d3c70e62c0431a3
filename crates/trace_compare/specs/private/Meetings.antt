-- How two runs lie to one another, as the search for matches asks. No public clause names it.
use Rattle.std.specs.Prelude.{◌≡◌, ℕ, ◌+◌, ◌<◌, ◌⊎◌, true}
use Rattle.trace_compare.specs.declared.clock.ClockShift.{ClockShift}
use Rattle.trace_compare.specs.declared.run.Run.{Run}
use Rattle.trace_compare.specs.declared.pairs.Meeting.{Meeting}
use Rattle.trace_compare.specs.declared.pairs.Meeting.TheVariants.{Fit, Early, Late}
use Rattle.trace_compare.specs.Pairs.{fits}

-- the recorded run begins or ends before the model's, by more than is allowed
abbrev pub IsTooEarly : ℕ → ClockShift → Run → Run → Type 0
IsTooEarly within shift m r =
    (r.start + shift.behind + within < m.start + shift.ahead) ⊎
    (r.«end» + shift.behind + within < m.«end» + shift.ahead)

abbrev pub IsLate : ℕ → ClockShift → Run → Run → Type 0
IsLate within shift m r =
    (m.start + shift.ahead + within < r.start + shift.behind) ⊎
    (m.«end» + shift.ahead + within < r.«end» + shift.behind)

abbrev pub IsMeeting : ℕ → ClockShift → Run → Run → Meeting → Type 0
IsMeeting within shift m r Fit = fits within shift m r ≡ true
IsMeeting within shift m r Early = IsTooEarly within shift m r
IsMeeting within shift m r Late = IsLate within shift m r
