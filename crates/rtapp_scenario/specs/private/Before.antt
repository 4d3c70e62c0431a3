-- The members of a thread before another one, for the code's own contracts.
use Rattle.std.specs.Prelude.{◌≡◌, List, count_by}
use Rattle.std.specs.List.{list_any}
use Rattle.rtapp_scenario.specs.declared.threads.Before.{Before}
use Rattle.rtapp_scenario.specs.Values.{Member}
use Rattle.rtapp_scenario.specs.Keys.{is_event}
use Rattle.rtapp_scenario.specs.Tests.{is_phases}

-- how many are events, and whether `phases` is among them
pub record IsBefore (ms : List Member) (b : Before) : Type 0 where
  pub events : b.events ≡ count_by is_event ms
  pub phases : b.phases ≡ list_any is_phases ms
