use Rattle.std.proofs.Common.{◌≡◌, List, ◌++◌, map, ap, ◌∙◌}
use Rattle.chart_pieces.specs.declared.status.Moment.{Moment}
use Rattle.chart_pieces.specs.declared.status.Turn.TheVariants.{Leaves, Comes}
use Rattle.chart_pieces.specs.Moments.{moment_if, moments_by}
use Rattle.chart_pieces.specs.private.Lines.{bars_all}
use Rattle.chart_pieces.proofs.Turning.{on_ok}
use Rattle.chart_pieces.proofs.Moments.{both_logged, numbers_of_lines}
use Rattle.chart_pieces.proofs.logging.log_switch.Goals as goal

pub log_turn-requires-2 : goal.log_turn-requires-2
log_turn-requires-2 c =
    let one = moment_if c.time-time.result (Leaves c.cpu-cpu.result c.state-state.result) c.prev.result in
    record { keyed = numbers_of_lines c.args.window.now one c.args.table.now.items c.log_turn.new.table.items c.args.places.now c.in_ok-log_turn.ensures c.requires.keyed }

pub returns : goal.returns
returns c =
    let w = c.args.window.now in
    let one = moment_if c.time-time.result (Leaves c.cpu-cpu.result c.state-state.result) c.prev.result in
    let two = moment_if c.time-time.result (Comes c.cpu-cpu.result) c.next.result in
    let same : one ++ two ≡ moments_by c.args.switch.now =
    λ i. moment_if (c.time-time.ensures i) (Leaves (c.cpu-cpu.ensures i) (c.state-state.ensures i)) (c.prev.ensures i) ++ moment_if (c.time-time.ensures i) (Comes (c.cpu-cpu.ensures i)) (c.next.ensures i) in
    on_ok c.log_turn-2.result _ _
    (λ e. both_logged w one two c.args.table.now.items c.log_turn.new.table.items c.log_turn-2.new.table.items c.in_ok-log_turn.ensures e
    ∙ ap (λ (ms : List Moment). map (bars_all w ms) c.args.table.now.items) same)
    c.log_turn-2.ensures
