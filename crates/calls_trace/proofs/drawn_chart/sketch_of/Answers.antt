use Rattle.std.proofs.Common.{◌≡◌, ℕ, ◌<◌, ◌∙◌, sym, ap, subst}
use Rattle.std.specs.Prelude.{All}
use Rattle.switch_text.specs.Names.{name_of_task}
use Rattle.chart_pieces.specs.declared.window.Window.{Window}
use Rattle.chart_pieces.specs.Laws.{AreSeen}
use Rattle.calls_trace.specs.private.Sketched.{ahead_in, sketch_ahead}
use Rattle.calls_trace.proofs.Sketches.{rows_long, sketch_drawn}
use Rattle.calls_trace.proofs.drawn_chart.sketch_of.Goals as goal

pub of_rows-requires-clause-inside : goal.of_rows-requires-clause-inside
of_rows-requires-clause-inside c =
    let d = c.args.drawing in
    let rows = c.in_ok-rows.rows.items in
    let long = rows_long d.window c.args.history.now c.args.state.now d.streamed rows c.requires.state c.requires.whole c.in_ok-rows.ensures.rows in
    subst (λ (n : ℕ). All (λ (i : ℕ). i < n) c.in-Ok.places.items) (sym long) c.in-Ok.ensures.inside

pub of_rows-requires-clause-seen : goal.of_rows-requires-clause-seen
of_rows-requires-clause-seen c = subst (λ (w : Window). All (AreSeen w) c.in_ok-rows.rows.items) c.requires.same_window c.in_ok-rows.ensures.seen

pub returns-in-Ok-names_of-clause-drawn : goal.returns-in-Ok-names_of-clause-drawn
returns-in-Ok-names_of-clause-drawn c =
    let d = c.args.drawing in
    let h = c.args.history.now in
    let state = c.args.state.now in
    let rows = c.in_ok-rows.rows.items in
    let long = rows_long d.window h state d.streamed rows c.requires.state c.requires.whole c.in_ok-rows.ensures.rows in
    c.of_rows.ensures.drawn
    ∙ sketch_drawn d.window h state d.streamed (name_of_task c.in-Ok-names_of.names) c.cpus.result rows c.in-Ok.places.items c.requires.state c.requires.whole c.in-Ok-names_of.ensures c.cpus.ensures.cpus (c.in-Ok.ensures.all rows long) c.in_ok-rows.ensures.rows
    ∙ ap (λ (w : Window). sketch_ahead w (ahead_in h)) c.requires.same_window
