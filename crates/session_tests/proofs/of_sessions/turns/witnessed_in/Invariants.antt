use Rattle.session_tests.proofs.of_sessions.turns.witnessed_in.Given as goal

abbrev pub ghosts-witnessed : goal.ghosts-witnessed
ghosts-witnessed g a = record { id = a.parts }
