use Rattle.std.proofs.Common.{Some, List, sym, ap, subst}
use Rattle.std.specs.Prelude.{All, Contains}
use Rattle.domain_run.specs.declared.happened.Happened.{Happened}
use Rattle.run_figures.specs.declared.run.Admitted.{Admitted}
use Rattle.run_figures.specs.Accounting.{AccountingView}
use Rattle.run_figures.specs.private.Keeping.{happened_in}
use Rattle.run_figures.specs.private.Lines.{AreLinesKept}
use Rattle.run_figures.proofs.Listed.{as_many_lines}
use Rattle.run_figures.proofs.Closing.{closed_are, all_are_released}
use Rattle.run_figures.proofs.accounting.Accounting.take_jobs.Goals as goal

pub closed_lines-requires-clause-among : goal.closed_lines-requires-clause-among
closed_lines-requires-clause-among c = subst (λ (a : AccountingView). All (λ (t : Admitted). Contains a.tasks t.number) c.args.tasks.now) (sym c.self.view_is) c.requires.among

pub closed_lines-requires-clause-as_many : goal.closed_lines-requires-clause-as_many
closed_lines-requires-clause-as_many c =
    let own = c.self.inside in
    as_many_lines (happened_in own.streamed) own.places c.in-Some.table.items (subst (AreLinesKept (happened_in own.streamed) own.places) (sym c.in-Some.ensures.value) c.self.invariant.4)

pub returns-clause-jobs : goal.returns-clause-jobs
returns-clause-jobs c =
    let own = c.self.inside in
    let kept : AreLinesKept (happened_in own.streamed) own.places (Some c.in-Some.table) = subst (AreLinesKept (happened_in own.streamed) own.places) (sym c.in-Some.ensures.value) c.self.invariant.4 in
    let kept_now : AreLinesKept c.args.self.now.happened own.places (Some c.in-Some.table) = subst (λ (hs : List Happened). AreLinesKept hs own.places (Some c.in-Some.table)) (ap (λ (a : AccountingView). a.happened) c.self.view_is) kept in
    closed_are c.args.self.now.happened c.args.tasks.now own.places c.in-Some.table.items c.closed_lines.result kept_now c.closed_lines.ensures

pub returns-clause-released : goal.returns-clause-released
returns-clause-released c = all_are_released c.args.self.now.happened c.args.tasks.now c.closed_lines.result (returns-clause-jobs c)
