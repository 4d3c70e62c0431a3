use Rattle.calls_text.proofs.BadLines.{only_answer, bad_answer}
use Rattle.calls_text.proofs.reading.read_calls.Goals as goal

pub returns-clause-only : goal.returns-clause-only
returns-clause-only c = only_answer c.args.text.now c.whole_text.result (record { found = c.whole_text.ensures.found; fault = c.whole_text.ensures.fault })

pub returns-clause-bad : goal.returns-clause-bad
returns-clause-bad c = bad_answer c.args.text.now c.whole_text.result (record { found = c.whole_text.ensures.found; fault = c.whole_text.ensures.fault })
