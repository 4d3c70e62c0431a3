use Rattle.session_tests.proofs.of_texts.crowds.admit_eight_in.Given as goal

abbrev pub ghosts-admit_eight : goal.ghosts-admit_eight
ghosts-admit_eight g a = record { id = a.parts }
