use Rattle.calls_text.proofs.Lines.{seen_later, seen_none}
use Rattle.calls_text.proofs.line_text.seen_of.Goals as goal

pub returns-in-Some : goal.returns-in-Some
returns-in-Some c = rw (seen_later c.args.text.now c.in-Some.digits.now (rw c.as_slice.ensures at c.in-Some.ensures)) c.number_within.ensures.gives

pub returns-in-None : goal.returns-in-None
returns-in-None c = seen_none c.args.text.now (rw c.as_slice.ensures at c.in-None.ensures)
