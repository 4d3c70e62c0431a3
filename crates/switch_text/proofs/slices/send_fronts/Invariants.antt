use Rattle.switch_text.proofs.slices.send_fronts.Given as goal

abbrev pub ghost-send_runs : goal.ghost-send_runs
ghost-send_runs g a = g.names
