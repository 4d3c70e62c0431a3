use Rattle.session_tests.proofs.of_sessions.changing.change_in.Given as goal

abbrev pub ghosts-change : goal.ghosts-change
ghosts-change g a = record { id = a.parts }
