use Rattle.std.proofs.Common.{sym, ◌∙◌}
use Rattle.calls_text.proofs.Readers.{whole_at_end, bad_at_end}
use Rattle.calls_text.proofs.calls_reader.CallsReader.end.Goals as goal

pub returns-then-is_whole-clause-next : goal.returns-then-is_whole-clause-next
returns-then-is_whole-clause-next c = λ text done b ends.
    whole_at_end text done c.args.self.now b ends (sym (c.is_whole.ensures text done b) ∙ c.if-is_whole.true)

pub returns-clause-next : goal.returns-clause-next
returns-clause-next c = λ text done b ends.
    (bad_at_end text done c.args.self.now c.bad_line.result b ends (sym (c.is_whole.ensures text done b) ∙ c.if-is_whole.false) (c.bad_line.ensures text done b), b)
