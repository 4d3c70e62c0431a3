-- Worked rows of scripts.
use Rattle.std.specs.Prelude.{◌≡◌, ℕ, true, false, List, [], ◌∷◌, Option, Some, None, refl}
use Rattle.task_script.specs.declared.phase.Event.{Event}
use Rattle.task_script.specs.declared.phase.Event.TheVariants.{Run, Timer, Wait}
use Rattle.recorded_jobs.specs.declared.job.Release.{Release}
use Rattle.recorded_scripts.specs.Scripts.{events_after, events_of_jobs, are_short_after, are_short}

abbrev release_at : ℕ → ℕ → Option ℕ → Release
release_at time work ended =
    record {
      time = time;
      woken = true;
      job = record { start = time; work = work; «end» = ended; gone = false };
    }

-- the task a of two on one CPU
two_jobs_written : events_of_jobs
    (release_at 5000000 60 (Some 5000092) ∷ release_at 5000100 50 (Some 5000150) ∷ [])
    ≡ Run 60 ∷ Timer 100 ∷ Run 50 ∷ Wait ∷ []
unfolding events_after
two_jobs_written = refl

-- the last job has no end; the second is released with the first, by a wrong clock
open_job_written : events_of_jobs
    (release_at 7 60 (Some 9) ∷ release_at 7 50 (Some 9) ∷ release_at 8 40 None ∷ [])
    ≡ Run 60 ∷ Run 50 ∷ Timer 1 ∷ Run 1000000000 ∷ []
unfolding events_after
open_job_written = refl

-- 10^9 us are short, and one more is not
longest_distance : are_short (release_at 7 60 (Some 9) ∷ release_at 1000000007 5 None ∷ [])
    ≡ true
unfolding are_short_after
longest_distance = refl

longer_distance : are_short (release_at 7 60 (Some 9) ∷ release_at 1000000008 5 None ∷ [])
    ≡ false
unfolding are_short_after
longer_distance = refl
