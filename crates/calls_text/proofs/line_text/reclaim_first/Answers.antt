use Rattle.std.proofs.Common.{true, false, ◌∙◌, ap}
use Rattle.calls_text.specs.private.Reading.{flagged_at}
use Rattle.calls_text.proofs.Lines.{flagged_again, flagged_none}
use Rattle.calls_text.proofs.line_text.reclaim_first.Goals as goal

pub returns-in-Some : goal.returns-in-Some
returns-in-Some c = ap flagged_at (rw c.as_slice.ensures at c.in-Some.ensures) ∙ flagged_again true c.in-Some.rest.now

pub returns-in-Some-following : goal.returns-in-Some-following
returns-in-Some-following c = ap flagged_at (rw c.as_slice-2.ensures at c.in-Some-following.ensures) ∙ flagged_again false c.in-Some-following.rest.now

pub returns : goal.returns
returns c = flagged_none c.args.text.now (rw c.as_slice.ensures at c.in_default.ensures) (rw c.as_slice-2.ensures at c.in_default-following.ensures)
