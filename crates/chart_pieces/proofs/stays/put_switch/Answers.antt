use Rattle.chart_pieces.proofs.Streaming.{numbers_stopped}
use Rattle.chart_pieces.proofs.stays.put_switch.Goals as goal

pub put_bar-requires : goal.put_bar-requires
put_bar-requires c =
    record { keyed = numbers_stopped c.args.window.now c.args.switch.now c.index-holder.result.now c.args.table.now.lines.items c.put_stop.new.table.items c.args.places.now c.put_stop.ensures c.requires.keyed }
