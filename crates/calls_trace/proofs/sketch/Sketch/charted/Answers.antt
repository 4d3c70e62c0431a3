use Rattle.std.proofs.Common.{sym, subst}
use Rattle.chart_pieces.specs.Laws.{AreSeen}
use Rattle.calls_trace.proofs.sketch.Sketch.charted.Goals as goal

pub returns-clause-drawn : goal.returns-clause-drawn
returns-clause-drawn c =
    let s = c.args.self.now in
    subst (AreSeen s.window) (sym c.index-row.ensures) (s.seen c.args.place _ c.requires.inside)
