-- Which attributes are accepted, and with which parameters (sched_setattr(2), sched(7)).
use Rattle.std.specs.Prelude.{ℕ, Bool, not, List, [], ◌∷◌, ◌%◌, ◌/◌, ◌^◌, ◌==◌, ◌&&◌, if◌then◌else◌, nat_lt, nat_le, find, Option, Some, None, Result, Ok, Err}
use Rattle.attr_check.specs.declared.attr.SchedAttr.{SchedAttr}
use Rattle.attr_check.specs.declared.refusal.AttrRefusal.{AttrRefusal}
use Rattle.attr_check.specs.declared.refusal.AttrRefusal.TheVariants.{NotDeadline, UnknownFlag, TopBit, Small, Order, Grain, Long}
use Rattle.attr_check.specs.ParamsView.{ParamsView}
use Rattle.attr_check.specs.Ratio.{ratio}

-- in nanoseconds: a period of 0 means the deadline (sched(7))
abbrev pub period_of : SchedAttr → ℕ
period_of a = if a.period == 0 then a.deadline else a.period

-- a whole number of microseconds
abbrev pub is_whole : ℕ → Bool
is_whole ns = ns % 1000 == 0

-- the test whose failure is this refusal
abbrev pub passes : SchedAttr → AttrRefusal → Bool
-- SCHED_DEADLINE is policy 6 (sched_setattr(2))
passes a NotDeadline = a.policy == 6
-- no bit outside 1 (reset on fork), 2 (reclaim) and 4 (overrun) (sched_setattr(2), EINVAL)
passes a UnknownFlag = nat_lt a.flags 8
-- each value is below 2^63 (sched(7))
passes a TopBit =
    nat_lt a.runtime (2 ^ 63) && nat_lt a.deadline (2 ^ 63) && nat_lt a.period (2 ^ 63)
-- the runtime is at least 1024 ns (sched(7)); the other values are not below it
passes a Small = nat_le 1024 a.runtime
-- runtime <= deadline <= period (sched(7))
passes a Order = nat_le a.runtime a.deadline && nat_le a.deadline (period_of a)
-- own: each value is a whole number of microseconds
passes a Grain = is_whole a.runtime && is_whole a.deadline && is_whole (period_of a)
-- own: the period is at most 2^32 us
passes a Long = nat_le (period_of a / 1000) (2 ^ 32)

-- the refusals, in the order in which they are tested
abbrev pub refusals : List AttrRefusal
refusals = NotDeadline ∷ UnknownFlag ∷ TopBit ∷ Small ∷ Order ∷ Grain ∷ Long ∷ []

-- the first refusal whose test fails
abbrev pub first_refusal : SchedAttr → Option AttrRefusal
first_refusal a = find (λ r. not (passes a r)) refusals

-- the parameters of accepted attributes, in microseconds; flag 2 is SCHED_FLAG_RECLAIM
abbrev pub params_of : SchedAttr → ParamsView
params_of a = record {
  runtime = a.runtime / 1000;
  deadline = a.deadline / 1000;
  period = period_of a / 1000;
  reclaim = a.flags / 2 % 2 == 1;
  bw = ratio (period_of a / 1000) (a.runtime / 1000);
}

abbrev pub unless_refused : SchedAttr → Option AttrRefusal → Result ParamsView AttrRefusal
unless_refused a None = Ok (params_of a)
unless_refused a (Some r) = Err r

-- the parameters where every test passes, else the first refusal
abbrev pub accepted : SchedAttr → Result ParamsView AttrRefusal
accepted a = unless_refused a (first_refusal a)
