use Rattle.switch_text.specs.private.Ready.{names_at}
use Rattle.switch_text.proofs.events.write_with.Given as goal

abbrev pub ghost-send_events : goal.ghost-send_events
ghost-send_events g a = names_at a.runs.now
