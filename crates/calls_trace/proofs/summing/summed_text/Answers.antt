use Rattle.std.proofs.Common.{◌≡◌, map, sym, ap, subst, ◌∙◌}
use Rattle.std.specs.Prelude.{All}
use Rattle.draft.proofs.CallerLemmas.{finished, as_text}
use Rattle.figure_text.specs.Summary as summaries
use Rattle.calls_trace.specs.private.Summed.{summed_as}
use Rattle.calls_trace.proofs.summing.summed_text.Goals as goal

pub put_summary-requires-clause-short : goal.put_summary-requires-clause-short
put_summary-requires-clause-short c = subst (All summaries.IsShortSummary) (sym c.deref.ensures.value) c.in_ok-domains.ensures.short

pub returns : goal.returns
returns c =
    let views : map summaries.summary_view_of c.deref.result.now ≡ map summed_as c.args.runs.now = ap (map summaries.summary_view_of) c.deref.ensures.value ∙ c.in_ok-domains.ensures.views in
    finished (λ v. v.items) c.into_text.result c.new-text.result c.put_summary.new.out _ c.new-text.ensures.text
    (as_text c.new-text.result c.put_summary.new.out _ _ (ap summaries.summary_text views) c.put_summary.ensures)
    c.into_text.ensures.text c.into_text.ensures.ok
