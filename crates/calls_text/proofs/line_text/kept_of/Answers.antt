use Rattle.calls_text.proofs.Lines.{call_after, call_none}
use Rattle.calls_text.proofs.line_text.kept_of.Goals as goal

pub returns-in-Some-clause-gives : goal.returns-in-Some-clause-gives
returns-in-Some-clause-gives c = rw (call_after c.args.line.now c.in-Some.word c.in-Some.rest.now c.in-Some.ensures) c.called.ensures.gives

pub returns-in-None-clause-gives : goal.returns-in-None-clause-gives
returns-in-None-clause-gives c = call_none c.args.line.now c.in-None.ensures
