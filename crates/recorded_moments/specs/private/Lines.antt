-- How far a text has been gathered. No public clause names it.
use Rattle.std.specs.Prelude.{◌≡◌, ℕ, true, List, ◌++◌}
use Rattle.recorded_text.specs.Text.{split_lines}
use Rattle.recorded_jobs.specs.declared.moment.Moment.{Moment}
use Rattle.recorded_moments.specs.declared.gathering.Wanted.{Wanted}
use Rattle.recorded_moments.specs.declared.fault.LineError.{LineError}
use Rattle.recorded_moments.specs.declared.fault.LineError.TheVariants.{Bad, Memory}
use Rattle.recorded_moments.specs.Moments.{WatchedView, moments_of_text, bad_event_from, first_bad_event, is_bad_event_line}

abbrev pub IsLineFault : LineError → List ℕ → Type 0
IsLineFault Bad line = is_bad_event_line line ≡ true
IsLineFault Memory line = Unit {0}

-- the lines of the rest have the numbers from n on, and those before gave these moments
pub record IsGatheredSoFar (wanted : Wanted) (tasks : List WatchedView) (text rest : List ℕ)
    (n : ℕ) (moments : List Moment) : Type 0 where
  pub bad : first_bad_event text ≡ bad_event_from n (split_lines rest)
  pub shown : moments_of_text wanted tasks text ≡ moments ++ moments_of_text wanted tasks rest
