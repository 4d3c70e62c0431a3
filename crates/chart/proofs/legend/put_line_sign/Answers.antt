use Rattle.std.proofs.Common.{ℕ, ◌+◌, List, ap, ◌∙◌}
use Rattle.std.specs.Prelude.{codes}
use Rattle.chart.specs.Legend.{sign_at, meaning}
use Rattle.chart.specs.Pieces.{line_class}
use Rattle.draft.proofs.CallerLemmas.{joined, as_text}
use Rattle.chart.proofs.legend.put_line_sign.Goals as goal

pub returns : goal.returns
returns c =
    joined c.args.out.now c.put_sign.new.out c.put_meaning.new.out _ _
    (as_text c.args.out.now c.put_sign.new.out _ _
    (ap (λ (class : List ℕ). sign_at class c.args.left (c.plot_end.result + 39) (codes "h30")) c.line_class.ensures
    ∙ ap (λ (end : ℕ). sign_at (line_class c.args.throttled) c.args.left (end + 39) (codes "h30")) c.plot_end.ensures.end)
    c.put_sign.ensures)
    (as_text c.put_sign.new.out c.put_meaning.new.out _ _ (ap (meaning c.args.sheet.now (c.args.left + 36)) c.line_meaning.ensures) c.put_meaning.ensures)
