-- A log that gathers what a domain logs while it waits to be taken.
use Rattle.std.specs.Prelude.{◌≤◌, ◌+◌, IsTrue, length}
use Rattle.domain_run.specs.Log.{LogView}

-- it keeps what it logs, and when it is empty it has room for an event
pub record IsGathering (log : LogView) : Type 0 where
  pub wanted : IsTrue log.wanted
  pub room : 2496 ≤ log.room + length log.happened
