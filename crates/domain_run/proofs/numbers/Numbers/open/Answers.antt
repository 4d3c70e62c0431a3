use Rattle.domain_run.proofs.Marks.{marked_no}
use Rattle.domain_run.proofs.numbers.Numbers.open.Goals as goal

-- not by counting the marks
pub returns : goal.returns
returns c = marked_no c.in-Ok.marks.items 65536 c.in-Ok.ensures.marks
