use Rattle.session_tests.proofs.of_sessions.moving.crossed_in.Given as goal

abbrev pub ghosts-crossed : goal.ghosts-crossed
ghosts-crossed g a = record { id = a.parts }
