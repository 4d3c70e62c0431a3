use Rattle.std.proofs.Common.{length, map, ap, ◌∙◌}
use Rattle.std.proofs.lemmas.List.{length-set, take_all}
use Rattle.run_figures.specs.declared.run.Admitted.{Admitted}
use Rattle.run_figures.specs.private.Lines.{closed_line}
use Rattle.run_figures.proofs.Chosen.{not_absent}
use Rattle.run_figures.proofs.Closing.{all_left, at_first, fewer_left, one_closed}
use Rattle.run_figures.proofs.lines.closed_lines.Goals as goal
use Rattle.run_figures.proofs.lines.closed_lines.Goals.{in-Some+in_ok-closed+in_ok-push, in_default}

pub loop-task-init : goal.loop-task-init
loop-task-init c = record {
  as_many = c.requires.as_many;
  put = λ f same. c.in_ok-all.ensures.items;
  left = λ f same. all_left f c.args.places.now c.args.tasks.now c.args.table.now.items same;
}

pub loop-task-preserved : goal.loop-task-preserved
loop-task-preserved c = elim c.match-find.branch [
  | in-Some+in_ok-closed+in_ok-push w ↦
      let places = c.args.places.now in
      let tasks = c.args.tasks.now in
      let i = c.loop-task.task-index in
      let place = w.in-Some.place in
      let items = c.loop-task.table.items in
      let read = w.replace-line.ensures.value ∙ w.index_mut.ensures.value in
      record {
        as_many = ap (λ v. length v.items) w.table-is ∙ length-set items place _ ∙ c.loop-task.invariant.as_many;
        put = λ f same. one_closed f tasks i _ w.replace-line.result _ c.loop-task.all.items _ c.loop-task-test.true
            (at_first f places tasks i _ items place w.replace-line.result _ c.loop-task-test.true w.in-Some.ensures.found read (c.loop-task.invariant.left f same))
            w.in_ok-closed.ensures (c.loop-task.invariant.put f same) (ap (λ v. v.items) w.all-is ∙ w.in_ok-push.ensures.items);
        left = λ f same. fewer_left f places tasks i _ items _ place _ c.requires.tasks c.loop-task-test.true w.in-Some.ensures.found (c.loop-task.invariant.left f same) (ap (λ v. v.items) w.table-is);
      }
  | in_default w ↦ absurd (not_absent c.args.places.now _ (c.requires.among c.loop-task.task-index _ c.loop-task-test.true) w.in_default.ensures.absent)
]

pub returns : goal.returns
returns c = λ f same.
    c.loop-task.invariant.put f same
    ∙ ap (map (λ (t : Admitted). closed_line (f t.number))) (take_all c.loop-task.task-index c.args.tasks.now c.loop-task-test.false)
