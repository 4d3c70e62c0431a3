use Rattle.std.proofs.Common.{map, take, ap, ◌∙◌}
use Rattle.chart_pieces.specs.declared.status.Moment.{Moment}
use Rattle.chart_pieces.specs.Moments.{moment_of}
use Rattle.chart_pieces.specs.private.Lines.{bars_if}
use Rattle.chart_pieces.proofs.Moments.{none_logged, one_logged, numbers_of_lines}
use Rattle.chart_pieces.proofs.logging.log_all.Goals as goal

pub loop-entry-init : goal.loop-entry-init
loop-entry-init c = none_logged c.args.window.now c.args.table.now.items

pub say-requires : goal.say-requires
say-requires c =
    record { keyed = numbers_of_lines c.args.window.now (map moment_of (take c.loop-entry.entry-index c.args.happened.now)) c.args.table.now.items c.loop-entry.table.items c.args.places.now c.loop-entry.invariant c.requires.keyed }

pub loop-entry-preserved : goal.loop-entry-preserved
loop-entry-preserved c =
    one_logged c.args.window.now c.args.happened.now c.loop-entry.entry-index _ c.args.table.now.items c.loop-entry.table.items c.say.new.table.items c.loop-entry-test.true c.loop-entry.invariant
    (c.in_ok-say.ensures ∙ ap (λ (m : Moment). map (λ l. bars_if c.args.window.now l m) c.loop-entry.table.items) c.moment_of.ensures)
