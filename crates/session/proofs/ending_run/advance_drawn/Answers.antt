use Rattle.session.proofs.Closed.{all_unstreamed}
use Rattle.session.proofs.ending_run.advance_drawn.Goals as goal

pub draw-logged-requires-clause-undrawn : goal.draw-logged-requires-clause-undrawn
draw-logged-requires-clause-undrawn g c = all_unstreamed c.end-ending.result.books.items c.args.unlocked.books.items c.end-ending.ensures
