-- What a refusal for want of bandwidth logs (EBUSY of sched_setattr(2)): why the bandwidth did not
-- fit.
use Rattle.std.specs.Prelude.{ℕ, ◌+◌, ◌-◌, ◌≤◌, ◌<◌, IsSomeAnd}
use Rattle.attr_check.specs.Ratio.{cap}
use Rattle.domain_run.specs.declared.call.Reply.{Reply}
use Rattle.domain_run.specs.declared.call.Reply.TheVariants.{Admitted, Changed, Woken, Left, Done, Set, Departed, Full, Twice, Busy, NotListed, NotWaiting}
use Rattle.domain_run.specs.Domain.{Domain}
use Rattle.domain_run.specs.Calls.{task_of}

-- where a reply is Busy, this holds of the number that it gives
abbrev pub IfBusy : Reply → (ℕ → Type 0) → Type 0
IfBusy (Busy seen) P = P seen
IfBusy Admitted P = Unit {0}
IfBusy Changed P = Unit {0}
IfBusy Woken P = Unit {0}
IfBusy Left P = Unit {0}
IfBusy (Done n) P = Unit {0}
IfBusy Set P = Unit {0}
IfBusy Departed P = Unit {0}
IfBusy Full P = Unit {0}
IfBusy Twice P = Unit {0}
IfBusy NotListed P = Unit {0}
IfBusy NotWaiting P = Unit {0}

-- a sum within the domain's cap, and above it with a bandwidth more
pub record LacksRoomFor (d : Domain) (bw seen : ℕ) : Type 0 where
  pub within : seen ≤ cap d.cpus d.limit
  pub above : cap d.cpus d.limit < seen + bw

-- a sum within the domain's cap, and above it with a bandwidth in place of that of the task of a
-- number
pub record LacksRoomToChange (d : Domain) (number bw seen : ℕ) : Type 0 where
  pub within : seen ≤ cap d.cpus d.limit
  pub above : IsSomeAnd (task_of d number) (λ t. cap d.cpus d.limit < seen - t.params.bw + bw)

-- a sum above CPUs times a new limit, and within the cap of today's
pub record IsAboveLimit (d : Domain) (limit seen : ℕ) : Type 0 where
  pub within : seen ≤ cap d.cpus d.limit
  pub above : cap d.cpus limit < seen
