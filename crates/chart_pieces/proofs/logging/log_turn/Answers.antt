use Rattle.std.proofs.Common.{ℕ, map, sym, ap, ◌∙◌}
use Rattle.std.specs.Prelude.{Option}
use Rattle.chart_pieces.specs.Moments.{moment_if}
use Rattle.chart_pieces.specs.private.Lines.{bars_all}
use Rattle.chart_pieces.proofs.Moments.{none_logged}
use Rattle.chart_pieces.proofs.logging.log_turn.Goals as goal

pub returns-in-None : goal.returns-in-None
returns-in-None c =
    none_logged c.args.window.now c.args.table.now.items
    ∙ ap (λ (o : Option ℕ). map (bars_all c.args.window.now (moment_if c.args.time c.args.turn o)) c.args.table.now.items) (sym c.in-None.is)
