use Rattle.std.proofs.Common.{◌∙◌}
use Rattle.calls_trace.proofs.playing_events.PlayingEvents.make_more.Goals as goal

pub pieces-preserved : goal.pieces-preserved
pieces-preserved c = c.play.ensures.whole ∙ c.pieces.invariant

pub returns-clause-whole : goal.returns-clause-whole
returns-clause-whole c = c.play.ensures.whole ∙ c.pieces.invariant
