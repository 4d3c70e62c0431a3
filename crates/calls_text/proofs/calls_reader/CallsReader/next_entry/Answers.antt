use Rattle.std.proofs.Common.{Option, Ok, subst}
use Rattle.calls_text.specs.declared.calls_reader.Numbered.{Numbered}
use Rattle.calls_text.specs.private.Numbered.{IsNextNumbered}
use Rattle.calls_text.proofs.calls_reader.CallsReader.next_entry.Goals as goal

pub returns-in-Ok-None-clause-next : goal.returns-in-Ok-None-clause-next
returns-in-Ok-None-clause-next c = λ text before s w.
    subst (λ (o : Option Numbered). IsNextNumbered text before s c.next_numbered.new.self (Ok o)) c.in-Ok-None.field-0-is (c.in-Ok-None.ensures.next text before s w)
