use Rattle.std.proofs.Common.{subst, arith, sym}
use Rattle.std.specs.Prelude.{All, Contains}
use Rattle.run_figures.specs.declared.run.Admitted.{Admitted}
use Rattle.run_figures.specs.Accounting.{AccountingView, streamed_run}
use Rattle.run_figures.specs.private.Keeping.{accounting_view_of, IsOfRun}
use Rattle.run_figures.proofs.Put.{all_short}
use Rattle.run_figures.proofs.Streaming.{kept_room, run_streamed, cpus_streamed}
use Rattle.run_figures.proofs.Chosen.{chosen_streamed, as_many}
use Rattle.run_figures.proofs.accounting.Accounting.summary_of_some.Goals as goal

pub some_figures-requires-clause-among : goal.some_figures-requires-clause-among
some_figures-requires-clause-among c = subst (λ (a : AccountingView). All (λ (t : Admitted). Contains a.tasks t.number) c.args.tasks.now) (sym c.self.view_is) c.requires.among

pub some_figures-requires-clause-logged : goal.some_figures-requires-clause-logged
some_figures-requires-clause-logged c =
    let own = c.self.inside in
    (as_many (accounting_view_of own.streamed own.places) own.logged.items c.deref.result.now own.ran.tasks.items c.deref-2.result.now own.ran.cpus.items c.self.invariant.0 c.deref.ensures.value c.deref-2.ensures.value).0

pub some_figures-requires-clause-ran : goal.some_figures-requires-clause-ran
some_figures-requires-clause-ran c =
    let own = c.self.inside in
    (as_many (accounting_view_of own.streamed own.places) own.logged.items c.deref.result.now own.ran.tasks.items c.deref-2.result.now own.ran.cpus.items c.self.invariant.0 c.deref.ensures.value c.deref-2.ensures.value).1

pub some_figures-requires-clause-room : goal.some_figures-requires-clause-room
some_figures-requires-clause-room c =
    let own = c.self.inside in
    kept_room (accounting_view_of own.streamed own.places) own.logged.items c.deref.result.now own.ran.tasks.items own.ran.cpus.items c.self.invariant.0 c.self.invariant.1 c.deref.ensures.value

pub returns-clause-tasks : goal.returns-clause-tasks
returns-clause-tasks c =
    let own = c.self.inside in
    chosen_streamed (accounting_view_of own.streamed own.places) c.args.self.now c.args.tasks.now own.logged.items c.deref.result.now own.ran.tasks.items c.deref-2.result.now own.ran.cpus.items c.in_ok-some_figures.field-0.items
    c.self.view_is c.self.invariant.0 c.deref.ensures.value c.deref-2.ensures.value c.in_ok-some_figures.ensures

pub returns-clause-cpus : goal.returns-clause-cpus
returns-clause-cpus c =
    let own = c.self.inside in
    cpus_streamed (accounting_view_of own.streamed own.places) c.args.self.now c.args.tasks.now own.logged.items own.ran.tasks.items own.ran.cpus.items c.deref-3.result.now c.in_ok-cpu_figures.field-0.items
    c.self.view_is c.self.invariant.0 c.deref-3.ensures.value c.in_ok-cpu_figures.ensures

pub returns-clause-short : goal.returns-clause-short
returns-clause-short c =
    let run : IsOfRun c.args.self.now = subst IsOfRun c.self.view_is c.self.invariant.1 in
    all_short (streamed_run c.args.self.now c.args.tasks.now) c.in_ok-some_figures.field-0.items c.in_ok-cpu_figures.field-0.items
    (run_streamed c.args.self.now c.args.tasks.now run c.requires.tasks) (omega (arith, run.few_switches)) (returns-clause-tasks c) (returns-clause-cpus c)
