use Rattle.std.proofs.Common.{take}
use Rattle.calls_text.specs.ReadSoFar.{entries_text}
use Rattle.draft.specs.Draft.{Adds}
use Rattle.calls_text.proofs.writing.put_entries.Given as goal

abbrev pub invariant-loop-entry : goal.invariant-loop-entry
invariant-loop-entry l = Adds l.initial.out l.out (entries_text (take l.entry-index l.entries))
