use Rattle.std.proofs.Common.{ℕ, ◌+◌, List, ap, ◌∙◌}
use Rattle.chart.specs.Legend.{sign_at, sign_top, meaning}
use Rattle.chart.specs.Pieces.{mark_class, mark_path}
use Rattle.chart.specs.Sizes.{plot_end}
use Rattle.draft.proofs.CallerLemmas.{joined, as_text}
use Rattle.chart.proofs.legend.put_mark_sign.Goals as goal

pub returns : goal.returns
returns c =
    let s = c.args.sheet.now in
    let sign = c.args.sign in
    joined c.args.out.now c.put_sign.new.out c.put_meaning.new.out _ _
    (as_text c.args.out.now c.put_sign.new.out _ _
    (ap (λ (class : List ℕ). sign_at class c.args.left (c.plot_end.result + c.sign_top.result) c.mark_path.result.now) c.mark_class.ensures
    ∙ ap (λ (end : ℕ). sign_at (mark_class sign) c.args.left (end + c.sign_top.result) c.mark_path.result.now) c.plot_end.ensures.end
    ∙ ap (λ (top : ℕ). sign_at (mark_class sign) c.args.left (plot_end s + top) c.mark_path.result.now) c.sign_top.ensures.top
    ∙ ap (sign_at (mark_class sign) c.args.left (plot_end s + sign_top sign)) c.mark_path.ensures)
    c.put_sign.ensures)
    (as_text c.put_sign.new.out c.put_meaning.new.out _ _
    (ap (λ (indent : ℕ). meaning s (c.args.left + indent) c.mark_meaning.result.now) c.sign_indent.ensures.indent
    ∙ ap (meaning s (c.args.left + _)) c.mark_meaning.ensures)
    c.put_meaning.ensures)
