use Rattle.std.proofs.Common.{◌≡◌, take}
use Rattle.run_figures.specs.private.Putting.{put_all}
use Rattle.run_figures.proofs.summary.all_figures.Given as goal

abbrev pub invariant-loop-place : goal.invariant-loop-place
invariant-loop-place l = l.all.items ≡ put_all l.«end» (take l.place l.tasks) l.logged l.ran
