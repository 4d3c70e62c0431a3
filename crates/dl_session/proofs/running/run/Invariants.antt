use Rattle.dl_session.proofs.running.run.Given as goal

abbrev pub ghosts-run_in : goal.ghosts-run_in
ghosts-run_in g a = record { id = a.parts }
