use Rattle.pass_seats.proofs.Steps.{begins}
use Rattle.pass_seats.proofs.spine.Spine.open.Goals as goal

pub of_words-requires : goal.of_words-requires
of_words-requires g c = begins g.row.E.Denot c.args.clients
