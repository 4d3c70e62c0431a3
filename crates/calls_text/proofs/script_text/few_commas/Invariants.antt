use Rattle.std.proofs.Common.{◌≤◌}
use Rattle.calls_text.proofs.script_text.few_commas.Given as goal

abbrev pub invariant-loop-b : goal.invariant-loop-b
invariant-loop-b l = l.count ≤ l.b-index
