use Rattle.std.proofs.Common.{length, map, ap, ◌∙◌}
use Rattle.std.proofs.lemmas.List.{take_all}
use Rattle.run_figures.specs.declared.run.Admitted.{Admitted}
use Rattle.calls_trace.proofs.Sketches.{not_absent, place_inside_too, place_more}
use Rattle.calls_trace.proofs.sketching.places_of.Goals as goal
use Rattle.calls_trace.proofs.sketching.places_of.Goals.{in-Some+in_ok-push, in_default}

pub loop-task-preserved : goal.loop-task-preserved
loop-task-preserved c = elim c.match-find.branch [
  | in-Some+in_ok-push w ↦
      let at = w.in-Some.ensures.found in
      let was = c.loop-task.places.items in
      let is = ap (λ v. v.items) w.places-is ∙ w.in_ok-push.ensures.items in
      record {
        inside = place_inside_too (length c.args.index.now) w.in-Some.place was _ is c.loop-task.invariant.inside at.within;
        rows = λ f. place_more f c.args.index.now c.args.tasks.now c.loop-task.task-index _ was _ w.in-Some.place c.loop-task-test.true at.within at.is (c.loop-task.invariant.rows f) is;
      }
  | in_default w ↦ absurd (not_absent c.args.index.now _ (c.requires.among c.loop-task.task-index _ c.loop-task-test.true) w.in_default.ensures.absent)
]

pub returns-clause-rows : goal.returns-clause-rows
returns-clause-rows c = λ f.
    c.loop-task.invariant.rows f
    ∙ ap (map (λ (t : Admitted). f t.number)) (take_all c.loop-task.task-index c.args.tasks.now c.loop-task-test.false)
