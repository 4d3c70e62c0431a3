use Rattle.session.proofs.admitting.admit_all.Given as goal

abbrev pub ghosts-admit_tasks : goal.ghosts-admit_tasks
ghosts-admit_tasks g a = record { tasks = a.tasks.now }
