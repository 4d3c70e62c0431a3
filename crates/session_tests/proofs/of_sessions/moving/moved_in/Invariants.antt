use Rattle.session_tests.proofs.of_sessions.moving.moved_in.Given as goal

abbrev pub ghosts-moved : goal.ghosts-moved
ghosts-moved g a = record { id = a.parts }
