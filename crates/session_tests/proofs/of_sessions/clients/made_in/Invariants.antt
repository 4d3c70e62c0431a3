use Rattle.session_tests.proofs.of_sessions.clients.made_in.Given as goal

abbrev pub ghosts-made : goal.ghosts-made
ghosts-made g a = record { id = a.parts }
