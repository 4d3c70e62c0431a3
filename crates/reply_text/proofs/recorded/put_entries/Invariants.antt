use Rattle.std.proofs.Common.{take}
use Rattle.draft.specs.Draft.{Adds}
use Rattle.reply_text.specs.private.Recorded.{recorded_lines}
use Rattle.reply_text.proofs.recorded.put_entries.Given as goal

abbrev pub invariant-loop-entry : goal.invariant-loop-entry
invariant-loop-entry l = Adds l.initial.out l.out (recorded_lines (take l.entry-index l.entries))
