use Rattle.switch_text.proofs.events.append_event.Given as goal

abbrev pub ghost-append_line : goal.ghost-append_line
ghost-append_line g a = g.names
