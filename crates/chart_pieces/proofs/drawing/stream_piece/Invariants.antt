use Rattle.chart_pieces.specs.private.Keeping.{drawing_view_of}
use Rattle.chart_pieces.proofs.Streaming.{IsStreamed}
use Rattle.chart_pieces.proofs.drawing.stream_piece.Given as goal

-- all moments of the piece, and the bars of its first switches
abbrev pub invariant-loop-switch : goal.invariant-loop-switch
invariant-loop-switch l = IsStreamed (drawing_view_of l.window l.streamed l.places) l.happened l.switches l.switch-index l.table.lines.items l.table.holders.items
