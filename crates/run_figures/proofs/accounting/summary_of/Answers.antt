use Rattle.std.proofs.Common.{◌≡◌, ◌∙◌, ap, subst, arith, All}
use Rattle.std.specs.Prelude.{IfOk}
use Rattle.run_figures.specs.Accounting.{AccountingView, streamed_run, with_piece}
use Rattle.run_figures.specs.Figures.{task_figures, cpu_figures}
use Rattle.run_figures.specs.Laws.{AreKnown, IsShared, IsLoggedOfCalls, ThrottlesBalance}
use Rattle.run_figures.specs.Runs.{run_view_of}
use Rattle.run_figures.proofs.Streaming.{whole_next}
use Rattle.run_figures.proofs.accounting.summary_of.Goals as goal

pub stream-requires : goal.stream-requires
stream-requires c =
    record { next = whole_next (run_view_of c.args.run.now) c.in_ok-accounting.accounting c.requires.run c.in_ok-accounting.ensures (omega arith) (omega arith) }

pub returns-clause-tasks : goal.returns-clause-tasks
returns-clause-tasks c =
    let run = c.args.run.now in
    let whole = c.stream.ensures ∙ ap (λ (a : AccountingView). with_piece a run.happened.now run.switches.now) c.in_ok-accounting.ensures in
    subst (λ (a : AccountingView). IfOk c.summary.result (λ s. s.tasks.items ≡ task_figures (streamed_run a run.tasks.now))) whole c.summary.ensures.tasks

pub returns-clause-cpus : goal.returns-clause-cpus
returns-clause-cpus c =
    let run = c.args.run.now in
    let whole = c.stream.ensures ∙ ap (λ (a : AccountingView). with_piece a run.happened.now run.switches.now) c.in_ok-accounting.ensures in
    subst (λ (a : AccountingView). IfOk c.summary.result (λ s. s.cpus.items ≡ cpu_figures (streamed_run a run.tasks.now))) whole c.summary.ensures.cpus

pub returns-clause-shared : goal.returns-clause-shared
returns-clause-shared c =
    let run = c.args.run.now in
    let whole = c.stream.ensures ∙ ap (λ (a : AccountingView). with_piece a run.happened.now run.switches.now) c.in_ok-accounting.ensures in
    subst (λ (a : AccountingView). IfOk c.summary.result (λ s. AreKnown run.tasks.now a.switches → IsShared s.tasks.items s.cpus.items)) whole c.summary.ensures.shared

pub returns-clause-balanced : goal.returns-clause-balanced
returns-clause-balanced c =
    let run = c.args.run.now in
    let whole = c.stream.ensures ∙ ap (λ (a : AccountingView). with_piece a run.happened.now run.switches.now) c.in_ok-accounting.ensures in
    subst (λ (a : AccountingView). IfOk c.summary.result (λ s. IsLoggedOfCalls a.happened → All (ThrottlesBalance a.happened) s.tasks.items)) whole c.summary.ensures.balanced
