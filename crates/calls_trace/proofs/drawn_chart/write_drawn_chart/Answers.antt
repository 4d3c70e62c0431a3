use Rattle.std.proofs.Common.{◌≡◌, ℕ, List, OnOk, subst, ◌∙◌}
use Rattle.std.specs.Prelude.{IfErr}
use Rattle.counted_io.specs.Sides.{Side, side}
use Rattle.calls_trace.specs.Charted.{chart_in}
use Rattle.calls_trace.specs.Written.{IsWritten, IsUnwritten}
use Rattle.calls_trace.proofs.drawn_chart.write_drawn_chart.Goals as goal

pub returns-clause-ok : goal.returns-clause-ok
returns-clause-ok g c =
    let w : Side = side g.W.Write.contents c.args.writer.now c.write_whole.new.writer in
    let same : c.deref.result.now ≡ chart_in c.args.window c.args.histories.now = c.deref.ensures.value ∙ c.in_ok-text.ensures in
    subst (λ (t : List ℕ). OnOk c.write_whole.result (IsWritten w t)) same c.write_whole.ensures.ok

pub returns-clause-err : goal.returns-clause-err
returns-clause-err g c =
    let w : Side = side g.W.Write.contents c.args.writer.now c.write_whole.new.writer in
    let same : c.deref.result.now ≡ chart_in c.args.window c.args.histories.now = c.deref.ensures.value ∙ c.in_ok-text.ensures in
    subst (λ (t : List ℕ). IfErr c.write_whole.result (IsUnwritten w t)) same c.write_whole.ensures.err
