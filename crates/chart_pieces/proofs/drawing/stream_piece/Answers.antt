use Rattle.std.proofs.Common.{◌≡◌, ◌<◌, None, length, get_or, set, map, sym, ap, ◌∙◌, subst, All}
use Rattle.domain_run.specs.Switch.{Switch}
use Rattle.chart_pieces.specs.Moments.{moments}
use Rattle.chart_pieces.specs.private.LineView.{ChartLineView}
use Rattle.chart_pieces.specs.private.Keeping.{drawing_view_of}
use Rattle.chart_pieces.specs.private.Lines.{AreDrawn, with_bar_of, with_stop_of, drawn_next}
use Rattle.chart_pieces.proofs.Streaming.{lines_keyed, none_streamed, streamed_keyed, streamed_drawn, streamed_inside, one_streamed, all_streamed}
use Rattle.chart_pieces.proofs.drawing.stream_piece.Goals as goal

pub log_moments-requires : goal.log_moments-requires
log_moments-requires c =
    let d = drawing_view_of c.args.window.now c.args.streamed.now c.args.places.now in
    record { keyed = lines_keyed d.window d.streamed.time (moments d.streamed.happened d.streamed.switches) d.streamed.switches d.streamed.tasks c.args.table.lines.items c.requires.drawn.lines_are }

pub loop-switch-init : goal.loop-switch-init
loop-switch-init c =
    let d = drawing_view_of c.args.window.now c.args.streamed.now c.args.places.now in
    none_streamed d c.args.happened.now c.args.switches.now c.args.table.lines.items c.log_moments.new.table.items c.args.table.holders.items c.requires.drawn c.requires.next c.in_ok-log_moments.ensures

pub put_switch-requires-clause-keyed : goal.put_switch-requires-clause-keyed
put_switch-requires-clause-keyed c =
    let d = drawing_view_of c.args.window.now c.args.streamed.now c.args.places.now in
    streamed_keyed d c.args.happened.now c.args.switches.now c.loop-switch.switch-index c.loop-switch.table.lines.items c.loop-switch.table.holders.items c.loop-switch.invariant

pub put_switch-requires-clause-drawn : goal.put_switch-requires-clause-drawn
put_switch-requires-clause-drawn c =
    let d = drawing_view_of c.args.window.now c.args.streamed.now c.args.places.now in
    let item : Switch = c.switch-item.result in
    let lines = c.loop-switch.table.lines.items in
    subst (λ (s : Switch). All (λ (l : ChartLineView). AreDrawn c.args.window.now s.time l.bars) lines) (sym c.switch-item.is)
    (streamed_drawn d c.args.happened.now c.args.switches.now c.loop-switch.switch-index item lines c.loop-switch.table.holders.items c.loop-switch.invariant c.requires.next c.loop-switch-test.true)

pub put_switch-requires-clause-inside : goal.put_switch-requires-clause-inside
put_switch-requires-clause-inside c =
    let d = drawing_view_of c.args.window.now c.args.streamed.now c.args.places.now in
    let item : Switch = c.switch-item.result in
    subst (λ (s : Switch). s.cpu < length c.loop-switch.table.holders.items) (sym c.switch-item.is)
    (streamed_inside d c.args.happened.now c.args.switches.now c.loop-switch.switch-index item c.loop-switch.table.lines.items c.loop-switch.table.holders.items c.loop-switch.invariant c.requires.next c.loop-switch-test.true)

pub loop-switch-preserved : goal.loop-switch-preserved
loop-switch-preserved c =
    let w = c.args.window.now in
    let d = drawing_view_of w c.args.streamed.now c.args.places.now in
    let item : Switch = c.switch-item.result in
    let same : item ≡ get_or c.args.switches.now c.loop-switch.switch-index item = c.switch-item.is in
    let lines = c.loop-switch.table.lines.items in
    let holders = c.loop-switch.table.holders.items in
    one_streamed d c.args.happened.now c.args.switches.now c.loop-switch.switch-index item lines c.put_switch.new.table.lines.items holders c.put_switch.new.table.holders.items c.loop-switch.invariant c.requires.next c.loop-switch-test.true
    (c.in_ok-put_switch.ensures.lines ∙ ap (λ (s : Switch). map (with_bar_of s.next w s d.streamed.time) (map (with_stop_of (get_or holders s.cpu None) w s) lines)) same)
    (c.in_ok-put_switch.ensures.holders ∙ ap (λ (s : Switch). set holders s.cpu (drawn_next w d.streamed.time s)) same)

pub returns : goal.returns
returns c =
    let d = drawing_view_of c.args.window.now c.args.streamed.now c.args.places.now in
    all_streamed d c.args.happened.now c.args.switches.now c.loop-switch.switch-index c.loop-switch.table.lines.items c.loop-switch.table.holders.items c.loop-switch.invariant c.loop-switch-test.false c.requires.next c.requires.drawn.past
