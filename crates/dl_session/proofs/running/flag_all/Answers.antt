use Rattle.std.proofs.Common.{sym, ap, ◌∙◌}
use Rattle.std.specs.Prelude.{true}
use Rattle.std.proofs.lemmas.List.Edits.{map_over_more}
use Rattle.dl_session.specs.RunAnswer.{with_reclaim}
use Rattle.dl_session.proofs.ScenarioLaw.{unflagged}
use Rattle.dl_session.proofs.running.flag_all.Goals as goal

pub returns-then-not-reclaim : goal.returns-then-not-reclaim
returns-then-not-reclaim c = rw c.if-not-reclaim.true (sym (unflagged c.args.tasks.now.items))

pub loop-task-preserved : goal.loop-task-preserved
loop-task-preserved c =
    let x = c.task-item.result in
    let l = c.loop-task in
    let same = ap (with_reclaim true) (c.task.view_is ∙ sym c.task-item.is) in
    record { written = rw same (map_over_more (with_reclaim true) c.deref_mut-task-items.result.now l.task-items l.task-index x c.loop-task-test.true l.invariant.written c.task-item.is) }
