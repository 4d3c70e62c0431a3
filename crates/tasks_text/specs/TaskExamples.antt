-- Worked rows of tasks files.
use Rattle.std.specs.Prelude.{◌≡◌, List, [], ◌∷◌, Some, None, true, false, codes, refl}
use Rattle.std.specs.Fmt.{digits}
use Rattle.tasks_text.specs.declared.task.Task.{Task}
use Rattle.tasks_text.specs.Tasks.{tasks_spelling}

abbrev two_tasks : List Task
two_tasks =
    record {
      name = codes "a";
      pid = None;
      params = record { runtime = 70; deadline = 100; period = 100; reclaim = false; bw = 734003 };
    } ∷ record {
      name = codes "b";
      pid = Some 12;
      params = record { runtime = 40; deadline = 200; period = 200; reclaim = true; bw = 209715 };
    } ∷ []

two_tasks_text : tasks_spelling two_tasks ≡ codes "dltasks 1\na 70 100 100 -\nb=12 40 200 200 R\n"
unfolding digits
two_tasks_text = refl
