use Rattle.session.proofs.Closed.{all_unstreamed}
use Rattle.session.proofs.ending_run.advance_streamed.Goals as goal

pub stream-logged-requires-clause-unstreamed : goal.stream-logged-requires-clause-unstreamed
stream-logged-requires-clause-unstreamed g c = all_unstreamed c.end-ending.result.books.items c.args.unlocked.books.items c.end-ending.ensures
