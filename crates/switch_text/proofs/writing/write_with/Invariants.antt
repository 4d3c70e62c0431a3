use Rattle.switch_text.specs.private.Ready.{names_at}
use Rattle.switch_text.proofs.writing.write_with.Given as goal

abbrev pub ghost-send_runs : goal.ghost-send_runs
ghost-send_runs g a = names_at a.runs.now
