use Rattle.std.proofs.Common.{◌≡◌, ap, ◌∙◌}
use Rattle.calls_text.specs.SectionView.{SectionView}
use Rattle.calls_trace.proofs.Recorded.{history_params}
use Rattle.calls_trace.proofs.named_run.params_of.Goals as goal

pub returns : goal.returns
returns c =
    let s = c.args.history.now in
    let same : c.deref.result.now ≡ s.entries = c.deref.ensures.value ∙ ap (λ (x : SectionView). x.entries) c.history.view_is in
    history_params s c.deref.result.now c.params_given.result c.requires same c.params_given.ensures.given
