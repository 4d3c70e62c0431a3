use Rattle.std.specs.Prelude.{option_map}
use Rattle.domain_run.specs.declared.task.TaskView.{TaskView}
use Rattle.std.proofs.Common.{◌∙◌, sym, ap, Some}
use Rattle.deadline_promise.proofs.Listing.{params_are}
use Rattle.deadline_promise.proofs.listed.params_at.Goals as goal

pub returns-in-None-view : goal.returns-in-None-view
returns-in-None-view c =
    sym (ap (λ o. option_map (λ (v : TaskView). v.params) o) c.in-None-view.is)
    ∙ params_are c.args.state.now c.args.place c.in-Some.number c.view.result c.now.ensures.domain.steady.numbered (sym c.in-Some.is ∙ c.number_at.ensures) c.view.ensures

pub returns-in-Some-view : goal.returns-in-Some-view
returns-in-Some-view c =
    ap Some c.params_of.ensures
    ∙ sym (ap (λ o. option_map (λ (v : TaskView). v.params) o) c.in-Some-view.is)
    ∙ params_are c.args.state.now c.args.place c.in-Some.number c.view.result c.now.ensures.domain.steady.numbered (sym c.in-Some.is ∙ c.number_at.ensures) c.view.ensures
