use Rattle.std.proofs.Common.{◌≡◌, map, refl, ◌∙◌}
use Rattle.switch_text.specs.Names.{name_of_task}
use Rattle.calls_trace.specs.DomainEvents.{admitted_with_params, params_in}
use Rattle.calls_trace.proofs.Figured.{tasks_streamed, cpus_streamed, streamed_is}
use Rattle.calls_trace.proofs.streamed_summary.count_streamed.Goals as goal

pub summary-requires-clause-same : goal.summary-requires-clause-same
summary-requires-clause-same c =
    tasks_streamed c.args.history.now (params_in c.args.history.now) c.args.state.now c.args.streamed.now c.deref.result.now (c.deref.ensures.value ∙ c.in_ok-tasks.ensures.tasks) c.requires.state c.requires.streamed

pub of-requires-clause-cpus : goal.of-requires-clause-cpus
of-requires-clause-cpus c =
    cpus_streamed c.args.history.now c.args.state.now c.args.streamed.now c.deref.result.now c.in_ok-summary.summary.cpus.items c.requires.state c.requires.streamed c.in_ok-summary.ensures.cpus

pub returns : goal.returns
returns c =
    let made = c.in_ok-summary.summary in
    let tasks = c.deref.result.now in
    let logged = params_in c.args.history.now in
    let are : tasks ≡ map (admitted_with_params logged) c.args.state.now.used = c.deref.ensures.value ∙ c.in_ok-tasks.ensures.tasks in
    c.of.ensures
    ∙ streamed_is c.args.history.now (name_of_task c.args.names.now) logged c.args.state.now c.args.streamed.now tasks made.tasks.items made.cpus.items
    c.requires.names refl c.requires.state c.requires.streamed are c.in_ok-summary.ensures.tasks c.in_ok-summary.ensures.cpus
