use Rattle.switch_text.proofs.ready.seat.Given as goal

abbrev pub ghost-refill : goal.ghost-refill
ghost-refill g a = g.names
