-- What is drawn of a row begins in time.
use Rattle.std.proofs.Common.{◌<◌, ◌≤◌, All}
use Rattle.chart_pieces.specs.declared.window.Window.{Window}
use Rattle.chart_pieces.specs.RowView.{RowView}
use Rattle.chart_pieces.specs.Laws.{AreSeen}

pub starts_in : (w : Window) (r : RowView) → AreSeen w r → All (λ b. b.start < w.to) r.bars
starts_in w r seen k d l = (seen.bars k d l).1

pub times_in : (w : Window) (r : RowView) → AreSeen w r → All (λ m. m.time ≤ w.to) r.marks
times_in w r seen k d l = (seen.marks k d l).1
