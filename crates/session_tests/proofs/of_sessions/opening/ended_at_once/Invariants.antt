use Rattle.session_tests.proofs.of_sessions.opening.ended_at_once.Given as goal

abbrev pub ghosts-ended : goal.ghosts-ended
ghosts-ended a = record { id = a.parts }
