use Rattle.switch_text.proofs.event_slices.send_fronts.Given as goal

abbrev pub ghost-send_events : goal.ghost-send_events
ghost-send_events g a = g.names
