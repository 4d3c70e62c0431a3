use Rattle.std.proofs.Common.{◌≡◌, ℕ, ◌<◌, List, [], length, sym, ap, subst, ◌∙◌}
use Rattle.std.specs.Prelude.{All, Contains}
use Rattle.std.proofs.lemmas.List.{length-map}
use Rattle.run_figures.specs.Accounting.{streamed_run}
use Rattle.chart_pieces.specs.declared.window.Window.{Window}
use Rattle.chart_pieces.specs.Laws.{AreSeen}
use Rattle.chart_pieces.specs.Rows.{row_of}
use Rattle.calls_trace.specs.private.Streaming.{led_to}
use Rattle.calls_trace.specs.private.Sketched.{streamed_as, sketch_led}
use Rattle.calls_trace.proofs.Sketches.{rows_of_numbers, sketch_is}
use Rattle.calls_trace.proofs.sketching.Sketching.sketched.Goals as goal

pub places_in-requires-clause-among : goal.places_in-requires-clause-among
places_in-requires-clause-among c =
    let s = c.args.self in
    subst (λ (ns : List ℕ). All (Contains ns) s.run.state.used) c.requires.numbers c.requires.among

pub of-requires-clause-inside : goal.of-requires-clause-inside
of-requires-clause-inside c =
    let s = c.args.self in
    let a = s.drawing.streamed in
    let keys = s.numbers.keys in
    let rows = c.in-Ok-rows.rows.items in
    let long : length rows ≡ length keys = ap length (rows_of_numbers s.drawing.window a keys rows c.requires.numbers c.in-Ok-rows.ensures.rows) ∙ length-map keys (row_of s.drawing.window (streamed_run a [])) in
    subst (λ (n : ℕ). All (λ i. i < n) c.in-Ok.places.items) (sym long) c.in-Ok.ensures.inside

pub of-requires-clause-seen : goal.of-requires-clause-seen
of-requires-clause-seen c =
    subst (λ (w : Window). All (AreSeen w) c.in-Ok-rows.rows.items) c.requires.window c.in-Ok-rows.ensures.seen

pub returns-in-Ok-rows-clause-drawn : goal.returns-in-Ok-rows-clause-drawn
returns-in-Ok-rows-clause-drawn c =
    let s = c.args.self in
    let w = s.drawing.window in
    c.of.ensures.drawn
    ∙ sketch_is w (streamed_as s) s.numbers.keys c.in-Ok.places.items c.in-Ok-rows.rows.items c.requires.calls c.requires.log c.requires.bare c.requires.time c.requires.numbers c.in-Ok.ensures.rows c.in-Ok-rows.ensures.rows
    ∙ ap (λ (x : Window). sketch_led x (led_to (streamed_as s))) c.requires.window
