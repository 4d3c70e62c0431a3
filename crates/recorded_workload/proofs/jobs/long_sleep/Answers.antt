use Rattle.std.proofs.Common.{◌∙◌, sym, ap}
use Rattle.recorded_workload.specs.Refusals.{fits_script}
use Rattle.recorded_workload.proofs.Walks.{long_here, long_later, long_none}
use Rattle.recorded_workload.proofs.jobs.long_sleep.Goals as goal

pub returns-then-not-fits_script : goal.returns-then-not-fits_script
returns-then-not-fits_script c = sym (c.loop-task.invariant ∙ long_here c.args.start c.args.jobs.now c.loop-task.task c.index-jobs-task.result c.index-jobs-task.is c.loop-task-test.true (ap (fits_script c.args.start) (sym c.deref.ensures.value) ∙ sym c.fits_script.ensures ∙ c.if-not-fits_script.true))

pub loop-task-preserved : goal.loop-task-preserved
loop-task-preserved c = c.loop-task.invariant ∙ long_later c.args.start c.args.jobs.now c.loop-task.task c.index-jobs-task.result c.index-jobs-task.is c.loop-task-test.true (ap (fits_script c.args.start) (sym c.deref.ensures.value) ∙ sym c.fits_script.ensures ∙ c.if-not-fits_script.false)

pub returns : goal.returns
returns c = sym (c.loop-task.invariant ∙ long_none c.args.start c.args.jobs.now c.loop-task.task c.loop-task-test.false)
