use Rattle.std.proofs.Common.{subst}
use Rattle.std.specs.Prelude.{IfOk, []}
use Rattle.run_figures.specs.Accounting.{streamed_run}
use Rattle.chart_pieces.specs.private.Keeping.{IsDrawingKept, drawing_view_of}
use Rattle.chart_pieces.proofs.Turning.{if_ok}
use Rattle.chart_pieces.proofs.Closing.{rows_of_tasks, rows_seen, rows_full, drawn_rows, drawn_past}
use Rattle.chart_pieces.proofs.drawing.Drawing.rows.Goals as goal

pub returns-clause-rows : goal.returns-clause-rows
returns-clause-rows c tasks same =
    let own = c.self.inside in
    let v = drawing_view_of own.window own.streamed own.places in
    let d = c.args.self in
    let table = c.in_ok-table.field-0 in
    let drawn : IsDrawingKept v table.lines.items table.holders.items = subst (λ r. IfOk r (λ t. IsDrawingKept v t.lines.items t.holders.items)) c.in_ok-table.was c.self.invariant in
    if_ok c.rows_by.result _ _
    (λ r closed. rows_of_tasks d.window (streamed_run d.streamed tasks) d.streamed.tasks r.items same (drawn_rows v d table.lines.items table.holders.items r.items c.self.view_is drawn closed))
    c.rows_by.ensures

pub returns-clause-seen : goal.returns-clause-seen
returns-clause-seen c =
    let own = c.self.inside in
    let v = drawing_view_of own.window own.streamed own.places in
    let d = c.args.self in
    let table = c.in_ok-table.field-0 in
    let drawn : IsDrawingKept v table.lines.items table.holders.items = subst (λ r. IfOk r (λ t. IsDrawingKept v t.lines.items t.holders.items)) c.in_ok-table.was c.self.invariant in
    if_ok c.rows_by.result _ _
    (λ r closed. rows_seen d.window (streamed_run d.streamed []) d.streamed.tasks r.items (drawn_rows v d table.lines.items table.holders.items r.items c.self.view_is drawn closed))
    c.rows_by.ensures

pub returns-clause-full : goal.returns-clause-full
returns-clause-full c tasks =
    let own = c.self.inside in
    let v = drawing_view_of own.window own.streamed own.places in
    let d = c.args.self in
    let table = c.in_ok-table.field-0 in
    let drawn : IsDrawingKept v table.lines.items table.holders.items = subst (λ r. IfOk r (λ t. IsDrawingKept v t.lines.items t.holders.items)) c.in_ok-table.was c.self.invariant in
    if_ok c.rows_by.result _ _
    (λ r closed whole. rows_full d.window (streamed_run d.streamed tasks) d.streamed.tasks r.items (drawn_past v d table.lines.items table.holders.items c.self.view_is drawn) whole
    (drawn_rows v d table.lines.items table.holders.items r.items c.self.view_is drawn closed))
    c.rows_by.ensures
