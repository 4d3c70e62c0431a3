use Rattle.std.proofs.Common.{◌≡◌}
use Rattle.book_tests.proofs.of_gates.threads.rounds.Given as goal

abbrev pub invariant-loop : goal.invariant-loop
invariant-loop g l = l.blank.gate ≡ l.gate
