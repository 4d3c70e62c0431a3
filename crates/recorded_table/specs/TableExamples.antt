-- A worked table: a task of two jobs and one of none.
use Rattle.std.specs.Prelude.{◌≡◌, true, false, List, [], ◌∷◌, Some, None, codes, refl}
use Rattle.std.specs.Fmt.{digits}
use Rattle.recorded_jobs.specs.declared.job.Release.{Release}
use Rattle.recorded_table.specs.Table.{distances_after, jobs_rows, jobs_table}

abbrev two_jobs : List Release
two_jobs =
    record {
      time = 5000000;
      woken = true;
      job = record { start = 5000002; work = 60; «end» = Some 5000092; gone = false };
    } ∷ record {
      time = 5000100;
      woken = false;
      job = record { start = 5000100; work = 51; «end» = None; gone = false };
    } ∷ []

two_tasks_shown : jobs_table (codes "a" ∷ codes "bcd" ∷ []) (two_jobs ∷ [] ∷ []) ≡ codes
    "#          task    jobs   woken    open   work_min   work_avg   work_max   dist_min   dist_avg   dist_max\n               a       2       1       1         51         55         60        100        100        100\n             bcd       0       0       0          -          -          -          -          -          -\n"
unfolding digits distances_after jobs_rows
two_tasks_shown = refl
