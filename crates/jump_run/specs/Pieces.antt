-- A piece of an advance (own). It ends after the event that makes one of two lists long enough: the
-- switches of the domain, or what its log was logged.
use Rattle.std.specs.Prelude.{ℕ, ◌+◌, ◌<◌, ◌≤◌, ◌||◌, Bool, nat_le, length}
use Rattle.domain_run.specs.Domain.{Domain}
use Rattle.domain_run.specs.Log.{LogView}

-- one of them has so many
abbrev pub has_enough : ℕ → Domain → LogView → Bool
has_enough enough d log = nat_le enough (length d.switches) || nat_le enough (length log.happened)

-- ONE EVENT. It makes a switch for each of 64 CPUs at most, and tells of each of 256 tasks nine
-- things at most: three at each step of its tick
abbrev pub event_switches : ℕ
event_switches = 64

abbrev pub event_logged : ℕ
event_logged = 2304

-- a domain and its log after an event, by those before it
pub record AddsAnEvent (before : Domain) (log : LogView) (after : Domain) (log_after : LogView)
    : Type 0 where
  pub switches : length after.switches ≤ length before.switches + event_switches
  pub logged : length log_after.happened ≤ length log.happened + event_logged

-- before the last event both had fewer than enough, so after it they have no more than this
pub record IsBounded (enough : ℕ) (d : Domain) (log : LogView) : Type 0 where
  pub switches : length d.switches < enough + event_switches
  pub logged : length log.happened < enough + event_logged
