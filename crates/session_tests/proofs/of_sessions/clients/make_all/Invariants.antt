use Rattle.std.proofs.Common.{All}
use Rattle.calls_text.specs.Limits.{IsEntry}
use Rattle.session_tests.proofs.of_sessions.clients.make_all.Given as goal

abbrev pub invariant-loop-entry : goal.invariant-loop-entry
invariant-loop-entry g l = All IsEntry l.entries.items

abbrev pub decreases-loop-entry : goal.decreases-loop-entry
decreases-loop-entry g l = goal.left-loop-entry g l
