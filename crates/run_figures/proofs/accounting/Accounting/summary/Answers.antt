use Rattle.std.proofs.Common.{subst, arith}
use Rattle.run_figures.specs.Accounting.{streamed_run}
use Rattle.run_figures.specs.private.Keeping.{accounting_view_of, IsOfRun}
use Rattle.run_figures.proofs.Evened.{all_balanced}
use Rattle.run_figures.proofs.Put.{all_short, shared}
use Rattle.run_figures.proofs.Streaming.{kept_room, run_streamed, tasks_streamed, cpus_streamed}
use Rattle.run_figures.proofs.accounting.Accounting.summary.Goals as goal

pub all_figures-requires-clause-room : goal.all_figures-requires-clause-room
all_figures-requires-clause-room c =
    let own = c.self.inside in
    kept_room (accounting_view_of own.streamed own.places) own.logged.items c.deref.result.now own.ran.tasks.items own.ran.cpus.items c.self.invariant.0 c.self.invariant.1 c.deref.ensures.value

pub returns-clause-tasks : goal.returns-clause-tasks
returns-clause-tasks c =
    let own = c.self.inside in
    tasks_streamed (accounting_view_of own.streamed own.places) c.args.self.now c.args.tasks.now own.logged.items c.deref.result.now own.ran.tasks.items c.deref-2.result.now own.ran.cpus.items c.in_ok-all_figures.field-0.items
    c.self.view_is c.self.invariant.0 c.requires.same c.deref.ensures.value c.deref-2.ensures.value c.in_ok-all_figures.ensures

pub returns-clause-cpus : goal.returns-clause-cpus
returns-clause-cpus c =
    let own = c.self.inside in
    cpus_streamed (accounting_view_of own.streamed own.places) c.args.self.now c.args.tasks.now own.logged.items own.ran.tasks.items own.ran.cpus.items c.deref-3.result.now c.in_ok-cpu_figures.field-0.items
    c.self.view_is c.self.invariant.0 c.deref-3.ensures.value c.in_ok-cpu_figures.ensures

pub returns-clause-short : goal.returns-clause-short
returns-clause-short c =
    let run : IsOfRun c.args.self.now = subst IsOfRun c.self.view_is c.self.invariant.1 in
    all_short (streamed_run c.args.self.now c.args.tasks.now) c.in_ok-all_figures.field-0.items c.in_ok-cpu_figures.field-0.items
    (run_streamed c.args.self.now c.args.tasks.now run c.requires.tasks) (omega (arith, run.few_switches)) (returns-clause-tasks c) (returns-clause-cpus c)

pub returns-clause-shared : goal.returns-clause-shared
returns-clause-shared c =
    let run : IsOfRun c.args.self.now = subst IsOfRun c.self.view_is c.self.invariant.1 in
    shared (streamed_run c.args.self.now c.args.tasks.now) c.in_ok-all_figures.field-0.items c.in_ok-cpu_figures.field-0.items
    (run_streamed c.args.self.now c.args.tasks.now run c.requires.tasks) (returns-clause-tasks c) (returns-clause-cpus c)

pub returns-clause-balanced : goal.returns-clause-balanced
returns-clause-balanced c =
    all_balanced (streamed_run c.args.self.now c.args.tasks.now) c.in_ok-all_figures.field-0.items (returns-clause-tasks c)
