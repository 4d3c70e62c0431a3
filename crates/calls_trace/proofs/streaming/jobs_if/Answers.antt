use Rattle.std.proofs.Common.{◌≡◌, map, ◌∙◌}
use Rattle.std.proofs.lemmas.Result.{IfOk-weaker}
use Rattle.run_figures.specs.Jobs.{task_jobs}
use Rattle.calls_trace.specs.private.Replaying.{given_in}
use Rattle.calls_trace.proofs.StreamedCalls.{tasks_are_among}
use Rattle.calls_trace.proofs.StreamedJobs.{jobs_of_admitted}
use Rattle.calls_trace.proofs.streaming.jobs_if.Goals as goal

pub take_jobs-requires-clause-among : goal.take_jobs-requires-clause-among
take_jobs-requires-clause-among c =
    tasks_are_among (given_in c.args.given.now) c.args.accounting.tasks c.args.state.now.used c.deref.result.now (c.deref.ensures.value ∙ c.in_ok-tasks.ensures.tasks) c.requires.among

pub returns : goal.returns
returns c = λ wanted.
    let a = c.args.accounting in
    let used = c.args.state.now.used in
    let tasks = c.deref.result.now in
    IfOk-weaker c.take_jobs.result (λ v. v.items ≡ map (λ t. task_jobs a.happened t.number) tasks) (λ v. v.items ≡ map (task_jobs a.happened) used)
    (λ v is. is ∙ jobs_of_admitted a.happened (given_in c.args.given.now) used tasks (c.deref.ensures.value ∙ c.in_ok-tasks.ensures.tasks)) c.take_jobs.ensures.jobs
