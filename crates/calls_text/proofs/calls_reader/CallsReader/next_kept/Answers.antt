use Rattle.std.proofs.Common.{Option, Ok, refl, subst}
use Rattle.std.specs.Prelude.{IfSome}
use Rattle.calls_text.specs.Limits.{IsEntry}
use Rattle.calls_text.specs.declared.calls_reader.Numbered.{Numbered}
use Rattle.calls_text.specs.private.Numbered.{IsNextNumbered, numbered_entry}
use Rattle.calls_text.proofs.calls_reader.CallsReader.next_kept.Goals as goal

pub returns-in-Ok-None-clause-next : goal.returns-in-Ok-None-clause-next
returns-in-Ok-None-clause-next c = λ text before s w.
    subst (λ (o : Option Numbered). IsNextNumbered text before s c.next_numbered.new.self (Ok o)) c.in-Ok-None.field-0-is (c.in-Ok-None.ensures.next text before s w)

-- the entry as it is numbered has this call
pub returns-in-Ok-Some-clause-next : goal.returns-in-Ok-Some-clause-next
returns-in-Ok-Some-clause-next c = λ text before s w. record {
  entry = numbered_entry c.in-Ok-Some.numbered;
  same = refl;
  within = subst (λ (o : Option Numbered). IsNextNumbered text before s c.next_numbered.new.self (Ok o)) c.in-Ok-Some.field-0-is (c.in-Ok-Some.ensures.next text before s w);
}

pub returns-in-Ok-Some-clause-call : goal.returns-in-Ok-Some-clause-call
returns-in-Ok-Some-clause-call c = (subst (λ (o : Option Numbered). IfSome o (λ n. IsEntry (numbered_entry n))) c.in-Ok-Some.field-0-is c.in-Ok-Some.ensures.entry).call
