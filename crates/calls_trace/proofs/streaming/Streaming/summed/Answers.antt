use Rattle.std.proofs.Common.{refl, ◌∙◌}
use Rattle.run_figures.specs.Accounting.{streamed_run}
use Rattle.calls_trace.specs.private.Streaming.{tasks_led}
use Rattle.calls_trace.proofs.Texts.{as_many_cpus}
use Rattle.calls_trace.proofs.StreamedCalls.{summed_is}
use Rattle.calls_trace.proofs.StreamedJobs.{jobs_are_led}
use Rattle.calls_trace.proofs.streaming.Streaming.summed.Goals as goal

pub of-requires-clause-cpus : goal.of-requires-clause-cpus
of-requires-clause-cpus c =
    let h = c.args.self in
    as_many_cpus (streamed_run h.accounting (tasks_led h)) c.in-Ok.summary.cpus.items c.in-Ok.ensures.cpus ∙ c.requires.cpus

pub returns-clause-figures : goal.returns-clause-figures
returns-clause-figures c =
    let h = c.args.self in
    let made = c.in-Ok.summary in
    c.of.ensures.figures
    ∙ summed_is h (tasks_led h) made.tasks.items made.cpus.items c.requires.calls c.requires.log c.requires.bare c.requires.time c.requires.cpus refl c.in-Ok.ensures.tasks c.in-Ok.ensures.cpus

pub returns-clause-jobs : goal.returns-clause-jobs
returns-clause-jobs c = λ wanted.
    c.of.ensures.jobs ∙ jobs_are_led c.args.self c.in-Ok-jobs_if.jobs.items c.requires.calls c.requires.log (c.in-Ok-jobs_if.ensures wanted)
