use Rattle.std.proofs.Common.{◌∙◌}
use Rattle.switch_text.specs.Names.{name_of_task}
use Rattle.calls_trace.specs.DomainEvents.{params_in}
use Rattle.calls_trace.proofs.StreamedJobs.{tasks_among_streamed, jobs_are_streamed}
use Rattle.calls_trace.proofs.streamed_jobs.jobs_streamed.Goals as goal

pub take_jobs-requires-clause-among : goal.take_jobs-requires-clause-among
take_jobs-requires-clause-among c =
    tasks_among_streamed c.args.history.now (params_in c.args.history.now) c.args.state.now c.args.streamed.now c.deref.result.now (c.deref.ensures.value ∙ c.in_ok-tasks.ensures.tasks) c.requires.state c.requires.streamed

pub returns-clause-jobs : goal.returns-clause-jobs
returns-clause-jobs c =
    jobs_are_streamed c.args.history.now (name_of_task c.in_ok-names.names) (params_in c.args.history.now) c.args.state.now c.args.streamed.now c.deref.result.now c.in-Ok.jobs.items
    c.in_ok-names.ensures c.requires.state c.requires.streamed (c.deref.ensures.value ∙ c.in_ok-tasks.ensures.tasks) c.in-Ok.ensures.jobs
