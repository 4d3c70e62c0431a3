use Rattle.std.proofs.Common.{◌∙◌, sym, arith}
use Rattle.recorded_workload.proofs.Walks.{many_here, many_later, many_none}
use Rattle.recorded_workload.proofs.jobs.many_jobs.Goals as goal

pub returns-then-count-gt-MOST_JOBS : goal.returns-then-count-gt-MOST_JOBS
returns-then-count-gt-MOST_JOBS c = sym (c.loop-task.invariant ∙ many_here c.args.jobs.now c.loop-task.task c.len-count.result c.index-jobs-task.result c.index-jobs-task.is c.loop-task-test.true (omega (arith, c.len-count.ensures, c.index-jobs-task.result.ok)) c.if-count-gt-MOST_JOBS.true)

pub loop-task-preserved : goal.loop-task-preserved
loop-task-preserved c = c.loop-task.invariant ∙ many_later c.args.jobs.now c.loop-task.task c.len-count.result c.index-jobs-task.result c.index-jobs-task.is c.loop-task-test.true (omega (arith, c.len-count.ensures, c.index-jobs-task.result.ok)) c.if-count-gt-MOST_JOBS.false

pub returns : goal.returns
returns c = sym (c.loop-task.invariant ∙ many_none c.args.jobs.now c.loop-task.task c.loop-task-test.false)
