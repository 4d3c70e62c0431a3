use Rattle.std.proofs.Common.{map, refl, ap, ◌∙◌}
use Rattle.std.proofs.lemmas.List.{take_all}
use Rattle.run_figures.specs.declared.run.Admitted.{Admitted}
use Rattle.run_figures.specs.private.Putting.{put_task}
use Rattle.run_figures.proofs.Chosen.{at_place, one_more, not_absent}
use Rattle.run_figures.proofs.accounting.choosing.some_figures.Goals as goal
use Rattle.run_figures.proofs.accounting.choosing.some_figures.Goals.{in-Some+in_ok-push, in_default}

pub loop-task-preserved : goal.loop-task-preserved
loop-task-preserved c = elim c.match-find.branch [
  | in-Some+in_ok-push w ↦ λ f g logged ran.
      let at = w.in-Some.ensures.found in
      one_more c.args.end f g c.args.tasks.now c.loop-task.task-index _ c.loop-task.all.items _ w.figures_of.result _ _ c.loop-task-test.true refl
      (at_place f c.args.logged.now c.args.places.now w.in-Some.place _ _ logged at.within at.is) (at_place g c.args.ran.now c.args.places.now w.in-Some.place _ _ ran at.within at.is)
      w.figures_of.ensures (c.loop-task.invariant f g logged ran) (ap (λ v. v.items) w.all-is ∙ w.in_ok-push.ensures.items)
  | in_default w ↦ λ f g logged ran. absurd (not_absent c.args.places.now _ (c.requires.among c.loop-task.task-index _ c.loop-task-test.true) w.in_default.ensures.absent)
]

pub returns : goal.returns
returns c = λ f g logged ran.
    c.loop-task.invariant f g logged ran
    ∙ ap (map (λ (t : Admitted). put_task c.args.end t (f t.number) (g t.number))) (take_all c.loop-task.task-index c.args.tasks.now c.loop-task-test.false)
