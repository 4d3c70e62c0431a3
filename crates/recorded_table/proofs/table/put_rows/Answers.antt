use Rattle.std.proofs.Common.{List, subst, arith}
use Rattle.draft.specs.Draft.{Adds}
use Rattle.recorded_jobs.specs.declared.job.Release.{Release}
use Rattle.recorded_table.specs.Table.{jobs_row}
use Rattle.recorded_table.proofs.Rows.{rows_more, rows_none}
use Rattle.recorded_table.proofs.table.put_rows.Goals as goal

pub loop-n-preserved : goal.loop-n-preserved
loop-n-preserved c =
    rows_more c.args.tasks.now c.args.jobs.now c.loop-n.n c.index-tasks-n.result c.index-jobs-n.result c.args.out.now c.loop-n.out c.put_task.new.out _ c.index-tasks-n.is c.index-jobs-n.is c.loop-n-test.true (omega (arith, c.loop-n-test.true, c.requires))
    (subst (λ (js : List Release). Adds c.loop-n.out c.put_task.new.out (jobs_row c.index-tasks-n.result.name js)) c.deref.ensures.value c.in_ok-put_task.ensures)
    c.loop-n.invariant

pub returns : goal.returns
returns c = rows_none c.args.tasks.now c.args.jobs.now c.loop-n.n c.args.out.now c.loop-n.out _ c.loop-n-test.false c.loop-n.invariant
