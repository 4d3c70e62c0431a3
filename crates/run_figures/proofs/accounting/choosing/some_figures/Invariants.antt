use Rattle.std.proofs.Common.{◌≡◌, ℕ, map, take}
use Rattle.run_figures.specs.declared.logged.TaskTally.{TaskTally}
use Rattle.run_figures.specs.declared.ran.Ran.{Ran}
use Rattle.run_figures.specs.private.Putting.{put_task}
use Rattle.run_figures.proofs.accounting.choosing.some_figures.Given as goal

abbrev pub invariant-loop-task : goal.invariant-loop-task
invariant-loop-task l = (f : ℕ → TaskTally) (g : ℕ → Ran) → l.logged ≡ map f l.places → l.ran ≡ map g l.places → l.all.items ≡ map (λ t. put_task l.«end» t (f t.number) (g t.number)) (take l.task-index l.tasks)
