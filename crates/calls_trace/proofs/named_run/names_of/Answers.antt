use Rattle.std.proofs.Common.{◌≡◌, ap, ◌∙◌}
use Rattle.calls_text.specs.SectionView.{SectionView}
use Rattle.calls_trace.proofs.Recorded.{history_names}
use Rattle.calls_trace.proofs.named_run.names_of.Goals as goal

pub returns : goal.returns
returns c =
    let s = c.args.history.now in
    let same : c.deref.result.now ≡ s.entries = c.deref.ensures.value ∙ ap (λ (x : SectionView). x.entries) c.history.view_is in
    history_names s c.deref.result.now c.names_given.result c.requires same c.names_given.ensures.names
