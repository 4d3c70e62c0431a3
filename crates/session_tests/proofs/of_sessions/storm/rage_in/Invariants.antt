use Rattle.session_tests.proofs.of_sessions.storm.rage_in.Given as goal

abbrev pub ghosts-rage : goal.ghosts-rage
ghosts-rage g a = record { id = a.parts }
