-- How far the stretches are collected, from the last moment to the first. No public clause names
-- it.
use Rattle.std.specs.Prelude.{◌≡◌, ℕ, ◌<◌, List, reverse, slice_index_or, Option, None}
use Rattle.recorded_jobs.specs.declared.moment.Moment.{Moment}
use Rattle.recorded_jobs.specs.declared.stretch.Stretch.{Stretch}
use Rattle.recorded_jobs.specs.Stretches.{switch_after, all_stretches}

-- of these moments, the first switch on each CPU, and the stretches, the last first
pub record AreStretchesAfter (last : ℕ) (next : List (Option Moment)) (stretches : List Stretch)
    (moments : List Moment) : Type 0 where
  pub switches : (cpu : ℕ) → cpu < 65536
      → slice_index_or next cpu None ≡ switch_after cpu moments
  pub found : reverse stretches ≡ all_stretches last moments
