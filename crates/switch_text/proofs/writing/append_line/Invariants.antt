use Rattle.switch_text.proofs.writing.append_line.Given as goal

abbrev pub ghost-seat : goal.ghost-seat
ghost-seat g a = g.names
