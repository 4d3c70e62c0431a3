-- A worked row: task a works twice on one CPU, task b once in between.
use Rattle.std.specs.Prelude.{◌≡◌, ℕ, true, false, List, [], ◌∷◌, ◌++◌, Some, None, codes, refl}
use Rattle.std.specs.Fmt.{digits}
use Rattle.recorded_jobs.specs.declared.job.Release.{Release}
use Rattle.calls_text.specs.Spelling.{spelling}
use Rattle.recorded_scripts.specs.Scripts.{events_after, phases_of}
use Rattle.recorded_workload.specs.Workload.{admits_from, full_advances, advances, numbered_from, time_zero}
use Rattle.tasks_text.specs.declared.task.Task.{Task}

abbrev release_at : ℕ → ℕ → ℕ → ℕ → Release
release_at time start work ended =
    record {
      time = time;
      woken = true;
      job = record { start = start; work = work; «end» = Some ended; gone = false };
    }

abbrev jobs_of_two : List (List Release)
jobs_of_two =
    (release_at 5000000 5000002 60 5000092 ∷ release_at 5000100 5000100 50 5000150 ∷ [])
    ∷ (release_at 5000042 5000042 30 5000072 ∷ []) ∷ []

abbrev two_tasks : List Task
two_tasks =
    record {
      name = codes "a";
      pid = None;
      params = record { runtime = 70; deadline = 100; period = 100; reclaim = false; bw = 734003 };
    } ∷ record {
      name = codes "b";
      pid = None;
      params = record { runtime = 40; deadline = 200; period = 200; reclaim = false; bw = 209715 };
    } ∷ []

two_tasks_admitted : spelling
    (record {
      cpus = 1;
      limit = 996147;
      entries = numbered_from 0
          (admits_from (time_zero jobs_of_two) 0 two_tasks jobs_of_two ++ advances 150);
    } ∷ [])
    ≡ codes "dlcalls 1\ndomain 1 996147\nadmit 1 1 a 70 100 100 - 0 1:1{r60,t100,r50,w}\nadmit 1 2 b 40 200 200 - 42 1:1{r30,w}\nadvance 1 150\n"
unfolding digits numbered_from admits_from full_advances events_after phases_of
two_tasks_admitted = refl
